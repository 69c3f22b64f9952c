-- Bits taken in in groups of one kind and given out in groups of another: what holds between two steps, and at the end.
use mathlib.Core.Path.{◌≡◌, refl, ap, sym, ◌∙◌}
use mathlib.Core.List.{List}
use Prim.Native.Nat.{ℕ, zero, suc, ◌+◌, ◌-◌, ◌*◌, ◌/◌, ◌%◌, ◌^◌, ◌<◌, ◌≤◌}
use native.Mathlib.Nat.{mul-one, add-zero, zero-add, le_of_suc-le-suc, not-suc-le-zero}
use native.Mathlib.Numerals.{add-one}
use native.Mathlib.Omega.{arith}
use borrow.Author.Count.{below_more}
use lib.ListN.{length, set}
use lib.Seq.{ext_get_or, get_or-set_same, get_or-set_other}
use Rattle.sheet.specs.Bits.{starts, joined, cut}
use Rattle.sheet.specs.Fields.{nth}
use Rattle.sheet.specs.Packing.{listed}
use Rattle.sheet.specs.Regrouping.{Mid}
use Rattle.sheet.proofs.bits.Groups.{cut_joined}
use Rattle.sheet.proofs.bits.Steps.{put_tail, take_tail, first_lt}

-- joining looks at the groups that it joins and at no other
pub joined_same : (w u v : ℕ → ℕ) (n : ℕ) → ((k : ℕ) → k < n → u k ≡ v k) → joined w u n ≡ joined w v n
unfolding joined
joined_same w u v zero h = refl
joined_same w u v (suc n) h = rw (joined_same w u v n (λ k l. h k (omega arith)), h n (omega arith))

pub joined_next : (w v : ℕ → ℕ) (n : ℕ) → joined w v (n + 1) ≡ joined w v n * 2 ^ w n + v n
unfolding joined
joined_next w v n = rw add-one

pub starts_next : (w : ℕ → ℕ) (n : ℕ) → starts w (n + 1) ≡ starts w n + w n
unfolding starts
starts_next w n = rw add-one

module _ (wi vi wo : ℕ → ℕ) where
  pub mid_start : (vo : ℕ → ℕ) → Mid wi vi wo vo 0 0 0 0
  unfolding starts joined
  mid_start vo = record { tail = record { sum = refl; low = omega arith }; place = refl; below = λ k h. absurd (not-suc-le-zero h) }

  pub mid_in : (vo : ℕ → ℕ) (p q b n : ℕ) → Mid wi vi wo vo p q b n → vi p < 2 ^ wi p
      → Mid wi vi wo vo (p + 1) q (b * 2 ^ wi p + vi p) (n + wi p)
  mid_in vo p q b n m h =
      record {
        tail = rw joined_next (put_tail _ _ b n (wi p) (vi p) m.tail h);
        place = omega (arith, starts_next wi p, m.place);
        below = m.below;
      }

  pub mid_out : (vo vo' : ℕ → ℕ) (p q b n : ℕ) → Mid wi vi wo vo p q b n → wo q ≤ n
      → ((k : ℕ) → k < q → vo' k ≡ vo k) → vo' q ≡ b / 2 ^ (n - wo q)
      → Mid wi vi wo vo' p (q + 1) (b % 2 ^ (n - wo q)) (n - wo q)
  mid_out vo vo' p q b n m l same now =
      record {
        tail = rw (joined_next wo vo' q, now, joined_same wo vo' vo q same) (take_tail _ _ b n (wo q) m.tail l);
        place = omega (arith, starts_next wo q, m.place);
        below = below_more _ _ (λ k h. rw (same k h) (m.below k h)) (rw now (first_lt b n (wo q) m.tail.low l));
      }

  -- the same, as a loop over lists states it: group q of the list v is stored, and w is its width
  pub mid_set : (v : List ℕ) (p q b n w x b' n' : ℕ) → Mid wi vi wo (nth v) p q b n → w ≡ wo q → w ≤ n → q < length v
      → x ≡ b / 2 ^ (n - w) → b' ≡ b % 2 ^ (n - w) → n' ≡ n - w → Mid wi vi wo (nth (set v q x)) p (q + 1) b' n'
  mid_set v p q b n w x b' n' m ew l lq ex eb en =
      rw (eb, en, ew)
      (mid_out (nth v) (nth (set v q x)) p q b n m (omega arith) (λ k h. get_or-set_other v q k x 0 (omega arith))
      (get_or-set_same v q x 0 lq ∙ rw (← ew) ex))

  pub mid_done : (vo : ℕ → ℕ) (p q b n : ℕ) → Mid wi vi wo vo p q b n → starts wi p ≡ starts wo q
      → (k : ℕ) → k < q → vo k ≡ cut wo q (joined wi vi p) k
  mid_done vo p q b n m e k h = sym (ap (λ (x : ℕ). cut wo q x k) all ∙ cut_joined wo vo q m.below k h)
    where
      none : n ≡ 0
      none = omega (arith, m.place)

      empty : b ≡ 0
      empty = let l : b < 2 ^ 0 = rw none at m.tail.low in omega arith

      all : joined wi vi p ≡ joined wo vo q
      all = m.tail.sum ∙ rw (none, empty) (add-zero _ ∙ mul-one _)

-- a list whose places hold f is the list of f
pub listed_length : (f : ℕ → ℕ) (i n : ℕ) → length (listed f i n) ≡ n
unfolding listed
listed_length f i zero = refl
listed_length f i (suc n) = ap suc (listed_length f (suc i) n)

pub listed_at : (f : ℕ → ℕ) (i n k : ℕ) → k < n → nth (listed f i n) k ≡ f (i + k)
unfolding listed
listed_at f i zero k h = absurd (not-suc-le-zero h)
listed_at f i (suc n) zero h = ap f (sym (add-zero i))
listed_at f i (suc n) (suc k) h = listed_at f (suc i) n k (le_of_suc-le-suc h) ∙ ap f (omega arith)

pub listed_is : (f : ℕ → ℕ) (n : ℕ) (v : List ℕ) → length v ≡ n → ((k : ℕ) → k < n → nth v k ≡ f k) → v ≡ listed f 0 n
listed_is f n v e h =
    ext_get_or 0 v (listed f 0 n) (e ∙ sym (listed_length f 0 n))
    (λ i l. h i (omega arith) ∙ sym (listed_at f 0 n i (omega arith) ∙ ap f (zero-add i)))
