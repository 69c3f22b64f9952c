-- No line is longer than the bytes it is given: a count has at most twenty digits and a number at most eleven bytes.
use mathlib.Core.Path.{◌≡◌}
use mathlib.Core.List.{List, [], ◌∷◌, map}
use Prim.Native.Nat.{ℕ, ◌+◌, ◌*◌, ◌^◌, ◌≤◌, ◌<◌}
use native.Mathlib.Nat.{mul-suc}
use native.Mathlib.Omega.{arith}
use lib.IntN.{ℤ}
use lib.ListN.{length, length-append, length-map}
use mir.Syntax.{w32}
use mir.Val.{SFits}
use Rattle.laws.specs.Each.{Each}
use Rattle.engine.specs.Numbers.{plain_count}
use Rattle.lines.specs.Decimals.{count_text, number_text}
use Rattle.design.specs.Numbers.{number_count}
use Rattle.lines.specs.Lines.{spaced, levels_line, sheet_line, both_line, route_line, both_route_line, line_bytes}
use Rattle.laws.proofs.Each.{each_map}
use Rattle.lines.proofs.putting.Counting.{count_at_most}
use Rattle.lines.proofs.putting.Signs.{number_at_most}
use Rattle.lines.proofs.putting.Spacing.{spaced_append}

spaced_at_most : (k : ℕ) (words : List (List ℕ)) → Each (λ (word : List ℕ). length word ≤ k) words → length (spaced words) ≤ (k + 1) * length words
unfolding spaced
spaced_at_most k [] e = omega arith
spaced_at_most k (word ∷ words) e =
    omega (arith, spaced_at_most k words e.1, length-append word (spaced words), mul-suc (k + 1) (length words))

pub count_at_most_20 : (n : ℕ) → n < 2 ^ 64 → length (count_text n) ≤ 20
count_at_most_20 n h = count_at_most 19 n (omega arith)

pub sheet_line_size : (index : ℕ) (numbers : List ℤ) → index < 2 ^ 64 → length numbers ≡ number_count → Each (SFits w32) numbers
    → length (sheet_line index numbers) ≤ 12 * number_count + 21
unfolding sheet_line
sheet_line_size index numbers h n fit =
    let each = each_map (SFits w32) (λ (w : List ℕ). length w ≤ 11) number_text number_at_most numbers fit in
    simp length-append (omega (arith, spaced_at_most 11 (map number_text numbers) each, length-map numbers number_text, count_at_most_20 index h))

pub both_line_size : (index : ℕ) (numbers : List ℤ) (plain : List ℕ) → index < 2 ^ 64 → length numbers ≡ number_count → Each (SFits w32) numbers
    → length plain ≡ plain_count → Each (λ (n : ℕ). n < 2 ^ 64) plain → length (both_line index numbers plain) ≤ line_bytes
unfolding both_line
both_line_size index numbers plain h n fit p small =
    let each = each_map (SFits w32) (λ (w : List ℕ). length w ≤ 11) number_text number_at_most numbers fit in
    let each-count = each_map (λ (n : ℕ). n < 2 ^ 64) (λ (w : List ℕ). length w ≤ 20) count_text count_at_most_20 plain small in
    simp (length-append, spaced_append)
    (omega (arith, spaced_at_most 11 (map number_text numbers) each, length-map numbers number_text, spaced_at_most 20 (map count_text plain) each-count, length-map plain count_text, count_at_most_20 index h))

module _ (a b c : ℕ) (fit-a : a < 2 ^ 64) (fit-b : b < 2 ^ 64) (fit-c : c < 2 ^ 64) where
  three : length (spaced (map count_text (a ∷ b ∷ c ∷ []))) ≤ 21 * 3
  three = spaced_at_most 20 (map count_text (a ∷ b ∷ c ∷ [])) (count_at_most_20 a fit-a, (count_at_most_20 b fit-b, (count_at_most_20 c fit-c, tt)))

  pub levels_line_size : length (levels_line a b c) ≤ 65
  unfolding levels_line
  levels_line_size = simp length-append (omega (arith, three))

  pub route_line_size : length (route_line a b c) ≤ 65
  unfolding route_line
  route_line_size = simp length-append (omega (arith, three))

  pub both_route_line_size : (d : ℕ) → d < 2 ^ 64 → length (both_route_line a b c d) ≤ 86
  unfolding both_route_line
  both_route_line_size d fit-d =
      simp length-append
      (omega (arith, spaced_at_most 20 (map count_text (a ∷ b ∷ c ∷ d ∷ [])) (count_at_most_20 a fit-a, (count_at_most_20 b fit-b, (count_at_most_20 c fit-c, (count_at_most_20 d fit-d, tt))))))
