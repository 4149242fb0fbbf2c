-- How written lines follow one another. Assumes nothing.
use Rattle.std.proofs.Common.{◌≡◌, ℕ, zero, suc, ◌+◌, ◌<◌, ◌≤◌, List, ◌++◌, length, get_or, drop, codes, refl, ap, add-one, arith}
use Rattle.std.proofs.lemmas.List.{append-nil, append_assoc, drop_more, drop_all}
use Rattle.listing.specs.declared.Line.{Line}
use Rattle.listing.specs.declared.Line.TheVariants.{Go, Use, Begin, BeginSub, End}
use Rattle.listing.specs.Writing.{indented, depth_after, whole_line, written}

indented_suc : (n : ℕ) → indented (suc n) ≡ indented n ++ codes "  "
unfolding indented
indented_suc zero = refl
indented_suc (suc n) = ap (λ (bs : List ℕ). codes "  " ++ bs) (indented_suc n)

pub indented_more : (n : ℕ) → indented (n + 1) ≡ indented n ++ codes "  "
indented_more n = rw add-one (indented_suc n)

pub depth_after_le : (l : Line) (d : ℕ) → depth_after l d ≤ d + 1
depth_after_le (Go m x y speed) d = omega arith
depth_after_le (Use name) d = omega arith
depth_after_le (Begin b) d = omega arith
depth_after_le (BeginSub name) d = omega arith
depth_after_le End d = omega arith

-- a line of those that are left is written
pub written_more : (ls : List Line) (i : ℕ) (default : Line) (d : ℕ) (text more : List ℕ) → i < length ls → more ≡ text ++ whole_line d (get_or ls i default) → more ++ written (depth_after (get_or ls i default) d) (drop (i + 1) ls) ≡ text ++ written d (drop i ls)
unfolding written
written_more ls i default d text more h e = rw (e, drop_more ls i default h) (append_assoc text (whole_line d (get_or ls i default)) (written (depth_after (get_or ls i default) d) (drop (i + 1) ls)))

pub written_all : (ls : List Line) (i d : ℕ) (text : List ℕ) → length ls ≤ i → text ++ written d (drop i ls) ≡ text
unfolding written
written_all ls i d text h = rw (drop_all i ls h) (append-nil text)
