-- One axis that goes from a to b, with its sign: where it is after n of m steps.
use Rattle.std.proofs.Common.{◌≡◌, ℕ, zero, suc, ◌+◌, ◌*◌, ◌<◌, ◌≤◌, ℤ, pos, negsuc, ◌+ℤ◌, ◌-ℤ◌, ◌*ℤ◌, nat_abs, ◌≤ℤ◌, ◌<ℤ◌, refl, ap, ◌∙◌, subst, arith}
use Rattle.std.proofs.lemmas.Int.{ints}
use Rattle.line.specs.Lines.{part, share}
use Rattle.line.specs.Laws.{Nearest}
use Rattle.line.proofs.Parts.{part_rounds, part_all, part_none, part_still, part_up, part_by}

-- the share of a way has the part of its length, and its sign
pub share_size : (n m : ℕ) (d : ℤ) → nat_abs (share n m d) ≡ part n m (nat_abs d)
unfolding share
share_size n m (pos d) = refl
share_size n m (negsuc d) = omega (arith, ints)

pub share_all : (m : ℕ) (d : ℤ) → share m m d ≡ d
unfolding share
share_all m (pos d) = ap pos (part_all m d)
share_all m (negsuc d) = omega (arith, ints, part_all m (suc d))

pub share_none : (m : ℕ) (d : ℤ) → nat_abs d ≤ m → share 0 m d ≡ pos 0
unfolding share
share_none m (pos d) h = ap pos (part_none m d h)
share_none m (negsuc d) h = omega (arith, ints, part_none m (suc d) h)

pub share_by : (n u m : ℕ) (d : ℤ) → nat_abs d ≤ m → nat_abs (share (n + u) m d -ℤ share n m d) ≤ u
unfolding share
share_by n u m (pos d) h = omega (arith, ints, part_up n u m d, part_by n u m d h)
share_by n u m (negsuc d) h = omega (arith, ints, part_up n u m (suc d), part_by n u m (suc d) h)

-- a way back has the same share, back
pub share_back : (n m : ℕ) (d : ℤ) → share n m (pos 0 -ℤ d) ≡ pos 0 -ℤ share n m d
unfolding share
share_back n m (pos zero) = omega (arith, ints, part_still n m)
share_back n m (pos (suc d)) = let e : pos 0 -ℤ pos (suc d) ≡ negsuc d = omega (arith, ints) in ap (share n m) e
share_back n m (negsuc d) =
    let e : pos 0 -ℤ negsuc d ≡ pos (suc d) = omega (arith, ints) in ap (share n m) e ∙ omega (arith, ints)

times_back : (m r : ℕ) → pos m *ℤ (pos 0 -ℤ pos r) ≡ pos 0 -ℤ pos (m * r)
times_back m zero = omega (arith, ints)
times_back m (suc r) =
    let e : pos 0 -ℤ pos (suc r) ≡ negsuc r = omega (arith, ints) in ap (λ z. pos m *ℤ z) e ∙ omega (arith, ints)

pub share_nearest : (n m : ℕ) (d : ℤ) → 0 < m → Nearest n m d (share n m d)
unfolding share
share_nearest n m (pos d) p = let r = part_rounds n m d p in omega (arith, ints)
share_nearest n m (negsuc d) p =
    let r = part_rounds n m (suc d) p in
    omega (arith, ints, times_back m (part n m (suc d)), ap (λ k. m * k) (share_size n m (negsuc d)))

-- as code computes it, by the way's sign
pub share_down : (n m w : ℕ) (d : ℤ) → d <ℤ pos 0 → w ≡ nat_abs d → share n m d ≡ pos 0 -ℤ pos (part n m w)
unfolding share
share_down n m w (pos d) h e = absurd (omega (arith, ints))
share_down n m w (negsuc d) h e = rw e

pub share_up : (n m w : ℕ) (d : ℤ) → pos 0 ≤ℤ d → w ≡ nat_abs d → share n m d ≡ pos (part n m w)
unfolding share
share_up n m w (pos d) h e = rw e
share_up n m w (negsuc d) h e = absurd (omega (arith, ints))

-- the same, where the axis begins at a
module _ (a b : ℤ) (m : ℕ) where
  pub starts_axis : nat_abs (b -ℤ a) ≤ m → a +ℤ share 0 m (b -ℤ a) ≡ a
  starts_axis h = omega (arith, ints, share_none m (b -ℤ a) h)

  pub ends_axis : a +ℤ share m m (b -ℤ a) ≡ b
  ends_axis = omega (arith, ints, share_all m (b -ℤ a))

  pub steps_axis :
      (n u : ℕ) → nat_abs (b -ℤ a) ≤ m → nat_abs ((a +ℤ share (n + u) m (b -ℤ a)) -ℤ (a +ℤ share n m (b -ℤ a))) ≤ u
  steps_axis n u h = omega (arith, ints, share_by n u m (b -ℤ a) h)

  pub nearest_axis : (n : ℕ) → 0 < m → Nearest n m (b -ℤ a) ((a +ℤ share n m (b -ℤ a)) -ℤ a)
  nearest_axis n p =
      let e : share n m (b -ℤ a) ≡ (a +ℤ share n m (b -ℤ a)) -ℤ a = omega (arith, ints) in
      subst (λ s. Nearest n m (b -ℤ a) s) e (share_nearest n m (b -ℤ a) p)

  pub moved_axis : (d : ℤ) (n : ℕ) → (a +ℤ d) +ℤ share n m ((b +ℤ d) -ℤ (a +ℤ d)) ≡ (a +ℤ share n m (b -ℤ a)) +ℤ d
  moved_axis d n =
      let e : (b +ℤ d) -ℤ (a +ℤ d) ≡ b -ℤ a = omega (arith, ints) in omega (arith, ints, ap (share n m) e)

  pub back_axis :
      (n : ℕ) → (pos 0 -ℤ a) +ℤ share n m ((pos 0 -ℤ b) -ℤ (pos 0 -ℤ a)) ≡ pos 0 -ℤ (a +ℤ share n m (b -ℤ a))
  back_axis n =
      let e : (pos 0 -ℤ b) -ℤ (pos 0 -ℤ a) ≡ pos 0 -ℤ (b -ℤ a) = omega (arith, ints) in
      omega (arith, ints, ap (share n m) e, share_back n m (b -ℤ a))
