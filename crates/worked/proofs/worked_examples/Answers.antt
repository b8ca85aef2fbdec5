use Rattle.std.proofs.Common.{refl, pos}
use Rattle.worked.proofs.Euclid.{shunt_shares, shunt_ratio, line_shares, line_ratio}
use Rattle.worked.specs.Line.{at_rest}
use Rattle.worked.proofs.Doors.{door_made, door_took, door_rises, door_stores}
use Rattle.worked.proofs.worked_examples.Goals as goal

pub returns : goal.returns
returns c = record {
  table = record {
    seven_halves = refl;
    too_large = refl;
    shunt_shares = shunt_shares;
    shunt_ratio = shunt_ratio;
    line_shares = line_shares;
    line_ratio = line_ratio;
    first = refl;
    second = refl;
    door_ratio = λ d B. let F = door_made d B in (F.num, F.den, door_rises at_rest d F);
    door_first = λ d z t B T.
        let R = door_took at_rest d (door_made d B) (pos 1701) t z T in
        (R.absorbed, R.shortened, R.heard, door_stores _ z R.after, door_rises _ z R.after);
    door_second = λ d z y t u B T U.
        let R = door_took at_rest d (door_made d B) (pos 1701) t z T in
        let Q = door_took _ z R.after (pos 1075) u y U in
        (Q.absorbed, Q.shortened, Q.heard, door_stores _ y Q.after);
  };
  first = record { rising = refl; falling = refl; absorbed = refl; shortened = refl; heard = refl; stored = refl };
  second = record { rising = refl; falling = refl; absorbed = refl; shortened = refl; heard = refl; stored = refl };
}
