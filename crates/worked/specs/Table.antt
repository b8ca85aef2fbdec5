-- Worked examples, as values of the definitions.
use Rattle.std.specs.Prelude.{◌≡◌, ◌*◌, pos, negsuc}
use Rattle.wave.specs.Numbers.{short}
use Rattle.wave.specs.Terms.{Reduced}
use Rattle.adaptor.specs.Ways.{whole_num, whole_den}
use Rattle.adaptor.specs.declared.ways.Way.TheVariants.{Series, Parallel}
use Rattle.port.specs.declared.takings.Taken.{Taken}
use Rattle.worked.specs.Line.{Fed, at_rest, next, feed}
use Rattle.worked.specs.Door.{Door, door_reads, door_takes, Built}
use Rattle.worked.specs.declared.Row.{Row}

-- an integer below zero: minus 3 is negsuc 2
pub record Table : Type 0 where
  -- minus 7/2 drops its fraction towards zero, and 524288 is held at the largest wave
  pub seven_halves : short (negsuc 6) 2 ≡ negsuc 2
  pub too_large : short (pos 524288) 1 ≡ pos 262143
  -- the shunt's shares and ratio, and the line's
  pub shunt_shares : Reduced (320 * 1) (166 * 1) 160 83
  pub shunt_ratio : Reduced (whole_num Parallel 320 1 166 1) (whole_den Parallel 320 1 166 1) 486 1
  pub line_shares : Reduced (31 * 1) (486 * 1) 31 486
  pub line_ratio : Reduced (whole_num Series 31 1 486 1) (whole_den Series 31 1 486 1) 15066 517
  -- a feed of 1000 from rest, and of 0 next
  pub first : feed at_rest (pos 1000)
      ≡ record { rising = pos 0; falling = pos 1701; absorbed = 1693366; shortened = 2; heard = pos 101; stored = 82525151 }
  pub second : feed (next at_rest (pos 1000)) (pos 0)
      ≡ record { rising = negsuc 1532; falling = pos 1075; absorbed = 13768704; shortened = 5; heard = pos 288; stored = 33693104 }
  -- the same of every port that is built so
  pub door_ratio : (d : Door) → Built d → ((door_reads d).num ≡ 15066) × ((door_reads d).den ≡ 517) × ((door_reads d).rising ≡ pos 0)
  pub door_first : (d z : Door) (t : Taken) → Built d → door_takes d (pos 1701) t z →
      (t.absorbed ≡ 1693366) × (t.shortened ≡ 2) × (t.heard ≡ pos 101) × ((door_reads z).stored ≡ 82525151) × ((door_reads z).rising ≡ negsuc 1532)
  pub door_second : (d z y : Door) (t u : Taken) → Built d → door_takes d (pos 1701) t z → door_takes z (pos 1075) u y →
      (u.absorbed ≡ 13768704) × (u.shortened ≡ 5) × (u.heard ≡ pos 288) × ((door_reads y).stored ≡ 33693104)

-- a row of the code's table is what the definitions give
pub record Told (x : Fed) (r : Row) : Type 0 where
  pub rising : r.rising ≡ x.rising
  pub falling : r.falling ≡ x.falling
  pub absorbed : r.absorbed ≡ x.absorbed
  pub shortened : r.shortened ≡ x.shortened
  pub heard : r.heard ≡ x.heard
  pub stored : r.stored ≡ x.stored
