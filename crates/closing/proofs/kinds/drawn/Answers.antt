use borrow.Author.Differences.{ints}
use Rattle.std.proofs.Common.{◌*◌, ◌^◌, ◌<◌, ◌≤◌, ℤ, pos, ◌*ℤ◌, nat_abs, ap, arith, w32, SFits}
use Rattle.std.proofs.lemmas.Int.{to_z-of_z, to_z_pos}
use Rattle.lemmas.proofs.Integers.{product_most}
use Rattle.wave.specs.Numbers.{largest_wave, largest_weight}
use Rattle.closing.proofs.kinds.drawn.Goals as goal

fits_of : (z : ℤ) → nat_abs z ≤ largest_weight * (3 * largest_wave) → SFits w32 z
fits_of z h = omega (arith, ints)

drawn_fits : (c : goal.After-get) → SFits w32 (pos c.get.result *ℤ c.args.x)
drawn_fits c =
    let w = c.args.weight.within in
    fits_of _ (product_most (pos c.get.result) largest_weight c.args.x (3 * largest_wave) (omega arith) c.requires)

pub overflow_mul-result : goal.overflow_mul-result
overflow_mul-result c =
    let w = c.args.weight.within in
    let l : c.get.result < 2 ^ 31 = omega arith in
    let x : SFits w32 c.args.x = c.ranges.x in
    simp (to_z-of_z, to_z_pos) (drawn_fits c)

pub returns : goal.returns
returns c =
    let w = c.args.weight.within in
    let l : c.get.result < 2 ^ 31 = omega arith in
    let x : SFits w32 c.args.x = c.ranges.x in
    let s : SFits w32 (pos c.get.result *ℤ c.args.x) = drawn_fits c in
    simp (to_z-of_z, to_z_pos) (ap (λ n. pos n *ℤ c.args.x) c.get.ensures)
