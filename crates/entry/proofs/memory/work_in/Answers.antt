use Rattle.std.proofs.Common.{◌≡◌, true, eqb, leb, length, w64, SFits, rules, arith, eq-eqb, le-leb}
use Rattle.std.proofs.lemmas.Int.{to_z-of_z}
use Rattle.count.specs.Counts.{size}
use Rattle.geometry.specs.Places.{within}
use Rattle.entry.specs.Entries.{nth, sound}
use Rattle.entry.proofs.memory.work_in.Goals as goal

pub returns : goal.returns
returns c =
    let xs = c.args.memory.now in
    let f0 : SFits w64 (nth xs 0) = search rules in
    let f1 : SFits w64 (nth xs 1) = search rules in
    let f2 : SFits w64 (nth xs 2) = search rules in
    let f3 : SFits w64 (nth xs 3) = search rules in
    let f4 : SFits w64 (nth xs 4) = search rules in
    let f5 : SFits w64 (nth xs 5) = search rules in
    let f6 : SFits w64 (nth xs 6) = search rules in
    let n : eqb (length xs) 7 ≡ true = eq-eqb _ _ (omega arith) in
    let q : c.count.result ≡ size (nth xs 6) = simp to_z-of_z at c.count.ensures in
    let p : leb (size (nth xs 6)) 100 ≡ true = le-leb _ _ (omega arith) in
    let w : true ≡ within 1000000000 (record { x = nth xs 1; y = nth xs 2 }) = simp to_z-of_z at c.if-not-is_within.ensures in
    let s : sound xs ≡ true = rw (n, ← c.if-not-all_within.ensures, p, ← w) in
    (rw s, rw (c.count-2.ensures, c.count-3.ensures, c.count-4.ensures, c.count-5.ensures, c.count-6.ensures) (simp to_z-of_z))
