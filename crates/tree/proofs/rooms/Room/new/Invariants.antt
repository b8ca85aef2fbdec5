use Rattle.std.proofs.Common.{◌≡◌, ◌≤◌, vec_len}
use Rattle.tree.proofs.rooms.Room.new.Given as goal

abbrev pub invariant-loop : goal.invariant-loop
invariant-loop l = (l.counter ≤ l.n) × (vec_len l.boxes ≡ l.counter)
