-- What holds of the walk along every circle, about a middle at 0, 0; R is the square of the radius. Assumes nothing.
--   On R p            p is a place of the walk, as a fact
--   ahead p d         x*dy - y*dx: above 0 where the step d from p goes to the left about the middle, below 0 to the right
--   Onward right p d  d is a step of one, on one axis or both, that goes onward from p: to the left, or if so said to the right
--   Nearer R n m      of two places with squares n and m, not at the middle, the first is nearer to the circle: the mean of
--                     their distances from the middle is past the radius and the second is the farther one, or the mean
--                     is less than the radius and the second is less far (twice the radius against the sum of two roots, squared)
--   Half R n          a place with square n is less than half a step from the circle, squared likewise
--   Next right R p q  q is the onward neighbour of p that is nearest to the circle
--   Walk right R w    w 0, w 1, .. is a walk: each place is the next of the one before
--   first R n         the places of the walk before its first step and after each of its first n
--   CircleLaws       the laws of the walk, as one record
use Rattle.std.specs.Prelude.{◌≡◌, ℕ, zero, suc, ◌+◌, ◌-◌, ◌*◌, ◌<◌, ◌≤◌, Bool, true, false, ◌⊎◌, List, [], ◌∷◌, ◌++◌, ℤ, pos, ◌-ℤ◌, ◌*ℤ◌, ◌<ℤ◌, unsigned_abs}
use Rattle.geometry.specs.declared.place.Place.{Place}
use Rattle.geometry.specs.Places.{moved, less, turned, mirrored}
use Rattle.geometry.specs.Frames.{sided}
use Rattle.circle.specs.Circles.{nearest_root, quarter, at, after, square, reach, on, index}

pub record On (R : ℕ) (p : Place) : Type 0 where
  pub inside : R ≤ square p + reach p
  pub outside : square p < R + reach p

abbrev pub ahead : Place → Place → ℤ
ahead p d = p.x *ℤ d.y -ℤ p.y *ℤ d.x

pub record Onward (right : Bool) (p d : Place) : Type 0 where
  pub across : unsigned_abs d.x ≤ 1
  pub along : unsigned_abs d.y ≤ 1
  pub onward : pos 0 <ℤ sided right (ahead p d)

abbrev pub Nearer : ℕ → ℕ → ℕ → Type 0
Nearer R n m =
    ((n < m) × ((4 * R - (n + m)) * (4 * R - (n + m)) < 4 * (n * m)))
    ⊎ ((m < n) × (4 * (n * m) < (4 * R - (n + m)) * (4 * R - (n + m))))

pub record Half (R n : ℕ) : Type 0 where
  pub outside : (4 * n - (4 * R + 1)) * (4 * n - (4 * R + 1)) < 16 * R
  pub inside : (4 * R - (4 * n + 1)) * (4 * R - (4 * n + 1)) < 16 * n

pub record Next (right : Bool) (R : ℕ) (p q : Place) : Type 0 where
  pub step : Onward right p (less q p)
  pub nearest : (d : Place) → Onward right p d → (moved d p ≡ q) ⊎ Nearer R (square q) (square (moved d p))

pub record Walk (right : Bool) (R : ℕ) (w : ℕ → Place) : Type 0 where
  pub next : (k : ℕ) → Next right R (w k) (w (suc k))

unfoldable pub first : ℕ → ℕ → List Place
first R zero = after R 0 ∷ []
first R (suc n) = first R n ++ (after R (suc n) ∷ [])

pub record CircleLaws : Type 0 where
  -- it begins on the x axis
  pub starts : (R : ℕ) → after R 0 ≡ at (nearest_root R) 0
  -- each place is of the walk, and less than half a step from the circle
  pub stays : (R k : ℕ) → 0 < R → On R (after R k)
  pub half : (R k : ℕ) → 0 < R → Half R (square (after R k))
  pub test : (R : ℕ) (p : Place) → (on R p ≡ true → On R p) × (On R p → on R p ≡ true)
  -- and no farther from the middle on an axis than it begins
  pub reaches : (R : ℕ) (p : Place) → On R p → reach p ≤ nearest_root R
  -- to the left each place is followed by its next one, and to the right by the one before it
  pub left : (R k : ℕ) → 0 < R → Next false R (after R k) (after R (suc k))
  pub right : (R k : ℕ) → 0 < R → Next true R (after R (suc k)) (after R k)
  -- so u steps more move no axis by more than u
  pub steps_x : (R n u : ℕ) → 0 < R → unsigned_abs ((after R (n + u)).x -ℤ (after R n).x) ≤ u
  pub steps_y : (R n u : ℕ) → 0 < R → unsigned_abs ((after R (n + u)).y -ℤ (after R n).y) ≤ u
  -- a place has no two next ones, so there is no other walk, from wherever on the circle
  pub only_next : (b : Bool) (R : ℕ) (p q r : Place) → Next b R p q → Next b R p r → q ≡ r
  pub only_left : (R : ℕ) (w : ℕ → Place) → 0 < R → Walk false R w → On R (w 0) → (k : ℕ) → w k ≡ after R (index R (w 0) + k)
  pub only_right : (R n : ℕ) (w : ℕ → Place) → 0 < R → Walk true R w → w 0 ≡ after R n → (k : ℕ) → k ≤ n → w k ≡ after R (n - k)
  -- a quarter on it is turned a quarter, so that after four, n times over, it comes round; counted the other way it is mirrored
  pub turns : (R k : ℕ) → 0 < R → after R (quarter R + k) ≡ turned (after R k)
  pub round : (R n k : ℕ) → 0 < R → after R (4 * n * quarter R + k) ≡ after R k
  pub mirrors : (R n j k : ℕ) → 0 < R → j + k ≡ (4 * n + 2) * quarter R → after R j ≡ mirrored (after R k)
  -- each place of the walk has one index in a round
  pub index_below : (R : ℕ) (p : Place) → 0 < R → On R p → index R p < 4 * quarter R
  pub after_index : (R : ℕ) (p : Place) → 0 < R → On R p → after R (index R p) ≡ p
  pub index_after : (R k : ℕ) → 0 < R → k < 4 * quarter R → index R (after R k) ≡ k
  -- a quarter of the circle of radius 5, place by place
  pub five : first 25 7 ≡ at 5 0 ∷ (at 5 1 ∷ (at 5 2 ∷ (at 4 3 ∷ (at 3 4 ∷ (at 2 5 ∷ (at 1 5 ∷ (at 0 5 ∷ [])))))))
