-- Bytes taken in a word at a time, and groups given out: one step after another, from the first to the last.
use mathlib.Core.Path.{◌≡◌, refl, sym, ◌∙◌}
use mathlib.Core.Bool.{Bool, true, false}
use mathlib.Core.List.{List, [], ◌∷◌, ◌++◌}
use Prim.Native.Nat.{ℕ, ◌+◌, ◌-◌, ◌*◌, ◌/◌, ◌%◌, ◌^◌, ◌<◌, ◌≤◌}
use native.Mathlib.Nat.{div-one}
use native.Mathlib.Omega.{arith}
use borrow.Author.Tests.{ltb-true, ltb-false}
use lib.Dec.{ltb}
use lib.ListN.{length, set, length-set, length-append, get_or-append}
use lib.Seq.{take_at, get_or_at}
use Rattle.sheet.specs.Fields.{count, groups, width, nth, spare_bits}
use Rattle.sheet.specs.Bits.{joined, cut}
use Rattle.sheet.specs.Packing.{eight, listed, groups_of, figures_in, number_of}
use Rattle.sheet.specs.Regrouping.{Mid, word_at, filled_of, SplitTo}
use Rattle.sheet.specs.declared.bits.Between.{Between}
use Rattle.sheet.specs.declared.bits.Held.{Held}
use Rattle.sheet.proofs.bits.Regroup.{mid_start, mid_in, mid_out, mid_set, mid_done, listed_is}
use Rattle.sheet.proofs.bits.Widths.{width_le, starts_eight, starts_width, starts_fields, width_spare, ends_width}

module _ (bytes : List ℕ) where
  -- at least w bits are held, and the first i groups are given out
  pub record Full (found : List ℕ) (full : Between) (i w : ℕ) : Type 0 where
    pub mid : Mid eight (nth bytes) width (nth found) (4 * full.words) i full.held.bits full.held.n
    pub enough : w ≤ full.held.n
    pub narrow : w ≤ 20
    pub few : full.held.n < w + 32
    pub whole : length found ≡ count

  module _ (byte : (k : ℕ) → nth bytes k < 256) where
    mid_byte : (found : List ℕ) (p q i b n : ℕ) → Mid eight (nth bytes) width (nth found) p i b n → q ≡ p + 1
        → Mid eight (nth bytes) width (nth found) q i (b * 2 ^ 8 + nth bytes p) (n + 8)
    mid_byte found p q i b n m e = rw e (mid_in eight (nth bytes) width (nth found) p i b n m (byte p))

    mid_word : (found : List ℕ) (k i b n : ℕ) → Mid eight (nth bytes) width (nth found) (4 * k) i b n
        → Mid eight (nth bytes) width (nth found) (4 * (k + 1)) i (b * 2 ^ 32 + word_at bytes k) (n + 32)
    unfolding word_at
    mid_word found k i b n m =
        let one = mid_byte found (4 * k) (4 * k + 1) i b n m (omega arith) in
        let two = mid_byte found (4 * k + 1) (4 * k + 2) i _ _ one (omega arith) in
        let three = mid_byte found (4 * k + 2) (4 * k + 3) i _ _ two (omega arith) in
        let four = mid_byte found (4 * k + 3) (4 * (k + 1)) i _ _ three (omega arith) in
        let eb : b * 2 ^ 32 + (nth bytes (4 * k) * 2 ^ 24 + nth bytes (4 * k + 1) * 2 ^ 16 + nth bytes (4 * k + 2) * 2 ^ 8 + nth bytes (4 * k + 3))
        ≡ (((b * 2 ^ 8 + nth bytes (4 * k)) * 2 ^ 8 + nth bytes (4 * k + 1)) * 2 ^ 8 + nth bytes (4 * k + 2)) * 2 ^ 8 + nth bytes (4 * k + 3) =
        omega arith in
        let en : n + 32 ≡ n + 8 + 8 + 8 + 8 = omega arith in
        rw (eb, en) four

    pub full_is : (found : List ℕ) (between full : Between) (i w : ℕ) → w ≤ 20 → SplitTo bytes found between i
        → full ≡ filled_of bytes between w → Full found full i w
    unfolding filled_of
    full_is found between full i w small s e = go (ltb between.held.n w) refl
      where
        go : (b : Bool) → ltb between.held.n w ≡ b → Full found full i w
        go true t =
            rw (e, t)
            record {
              mid = mid_word found between.words i _ _ s.mid;
              enough = omega arith;
              narrow = small;
              few = omega (arith, ltb-true between.held.n w t);
              whole = s.whole;
            }
        go false t =
            rw (e, t)
            record { mid = s.mid; enough = ltb-false between.held.n w t; narrow = small; few = omega (arith, s.few); whole = s.whole }

  -- one group more
  pub split_one : (found : List ℕ) (full : Between) (i w x : ℕ) (rest : Held) → Full found full i w → w ≡ width i → i < count
      → x ≡ full.held.bits / 2 ^ (full.held.n - w) → rest.bits ≡ full.held.bits % 2 ^ (full.held.n - w)
      → rest.n ≡ full.held.n - w → SplitTo bytes (set found i x) record { held = rest; words = full.words } (i + 1)
  split_one found full i w x rest f ew h ex eb en =
      record {
        mid =
            mid_set eight (nth bytes) width found (4 * full.words) i full.held.bits full.held.n w x rest.bits rest.n f.mid ew
            f.enough (omega (arith, f.whole)) ex eb en;
        few = omega (arith, f.few, f.enough);
        whole = rw length-set f.whole;
      }

  -- a word is left to take in while a group is to be given out and too few bits are held
  pub word_left : (found : List ℕ) (between : Between) (i w : ℕ) → SplitTo bytes found between i → i < count → w ≡ width i
      → between.held.n < w → (between.held.n < 28) × (between.words < 7)
  word_left found between i w s h ew l = (
    omega (arith, width_le i (omega arith)),
    omega (arith, s.mid.place, starts_eight (4 * between.words), ends_width i (omega arith)),
  )

pub split_start : (bytes found : List ℕ) → length found ≡ count
    → SplitTo bytes found record { held = record { bits = 0; n = 0 }; words = 0 } 0
split_start bytes found e = record { mid = mid_start eight (nth bytes) width (nth found); few = omega arith; whole = e }

-- all fields are given out: what is held is the spare bits, and both are the bytes' groups
pub record SplitAll (bytes found : List ℕ) (spare : ℕ) : Type 0 where
  pub figures : found ≡ figures_in bytes
  pub rest : spare ≡ nth (groups_of bytes) count
  pub small : spare < 2 ^ spare_bits

pub split_all : (bytes found : List ℕ) (between : Between) → SplitTo bytes found between count → SplitAll bytes found between.held.bits
unfolding groups_of figures_in number_of
split_all bytes found between s =
    record {
      figures = sym (rw (← all) (take_at found (b ∷ []) count s.whole));
      rest = rw (← all) (sym last);
      small = rw held at s.mid.tail.low;
    }
  where
    b : ℕ
    b = between.held.bits

    held : between.held.n ≡ spare_bits
    held = omega (arith, s.few, s.mid.place, starts_eight (4 * between.words), starts_fields)

    words : 4 * between.words ≡ 28
    words = omega (arith, s.mid.place, starts_eight (4 * between.words), starts_fields, held)

    last : nth (found ++ (b ∷ [])) count ≡ b
    last = get_or_at found b [] 0 count s.whole

    before : Mid eight (nth bytes) width (nth found) 28 count b spare_bits
    before = rw (words, held) at s.mid

    none : spare_bits - width count ≡ 0
    none = omega (arith, width_spare)

    after : Mid eight (nth bytes) width (nth (found ++ (b ∷ []))) 28 groups (b % 2 ^ (spare_bits - width count)) (spare_bits - width count)
    after =
        mid_out eight (nth bytes) width (nth found) (nth (found ++ (b ∷ []))) 28 count b spare_bits before (omega (arith, width_spare))
        (λ k h. get_or-append found (b ∷ []) 0 k (omega (arith, s.whole))) (last ∙ rw none (sym (div-one b)))

    all : found ++ (b ∷ []) ≡ listed (cut width groups (joined eight (nth bytes) 28)) 0 groups
    all =
        listed_is _ groups (found ++ (b ∷ [])) (rw (length-append) (omega (arith, s.whole)))
        (mid_done eight (nth bytes) width (nth (found ++ (b ∷ []))) 28 groups _ _ after (starts_eight 28 ∙ sym starts_width))
