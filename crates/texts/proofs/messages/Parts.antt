-- A part of a text, with its ends kept within the text, is the same part.
use mathlib.Core.Path.{◌≡◌, refl, sym, ◌∙◌}
use mathlib.Core.List.{List, []}
use Prim.Native.Nat.{ℕ, ◌-◌, min}
use native.Mathlib.Omega.{arith}
use lib.ListN.{length, take, drop, length-drop, drop_of_length-le}
use lib.Seq.{take_all}
use Rattle.lines.proofs.decimals.Digits.{below_or}

take_none : (l : List ℕ) → take 0 l ≡ []
take_none l = refl

pub same_part : (text : List ℕ) (start end : ℕ)
    → take (min end (length text) - min start (min end (length text))) (drop (min start (min end (length text))) text) ≡ take (end - start) (drop start text)
same_part text start end =
    below_or end start
    (λ past.
    let m : min start (min end (length text)) ≡ min end (length text) = omega arith in
    let z : min end (length text) - min end (length text) ≡ 0 = omega arith in
    let y : end - start ≡ 0 = omega arith in
    rw (m, z, y))
    (λ within.
    below_or (length text) end
    (λ over.
    let e : min end (length text) ≡ length text = omega arith in
    below_or (length text) start
    (λ out.
    let m : min start (length text) ≡ length text = omega arith in
    let z : length text - length text ≡ 0 = omega arith in
    rw (e, m, z, drop_of_length-le text {i = start} (omega arith)) (sym (take_all (end - start) [] (omega arith))))
    (λ inside.
    let m : min start (length text) ≡ start = omega arith in
    rw (e, m)
    (take_all (length text - start) (drop start text) (omega (arith, length-drop start text))
    ∙ sym (take_all (end - start) (drop start text) (omega (arith, length-drop start text))))))
    (λ all.
    let e : min end (length text) ≡ end = omega arith in
    let m : min start end ≡ start = omega arith in
    rw (e, m)))
