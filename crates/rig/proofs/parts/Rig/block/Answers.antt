use Rattle.std.proofs.Common.{◌≡◌, ◌+◌, ◌-◌, ◌*◌, ◌≤◌, ◌++◌, length, take, ap, ◌∙◌, arith}
use Rattle.std.proofs.lemmas.Slice.{take-put_mid, drop-put_mid}
use Rattle.rig.proofs.Blocked.{progress_start, progress_step, progress_end}
use Rattle.rig.proofs.parts.Rig.block.Goals as goal

pub loop-i-init : goal.loop-i-init
loop-i-init g c = progress_start _ _ _ _ _ c.in_ok-block_ready.ensures.0

pub loop-i-preserved : goal.loop-i-preserved
loop-i-preserved g c =
    let ready = c.in_ok-block_ready.ensures in
    let i = c.loop-i.i in
    let after = c.loop-i.output in
    let out = c.copy_from_slice.new.self in
    let is = c.copy_from_slice.ensures.after in
    let two : length out ≡ 2 = omega (arith, c.copy_from_slice.ensures.len, c.loop-i.auto.output, ready.2) in
    let room : 2 * i ≤ length after = omega (arith, c.loop-i.auto.output, c.as_chunks.ensures.front_len, ready.3) in
    progress_step _ _ _ _ _ _ _ _ _ _ _ _ _ c.as_chunks.ensures.front c.as_chunks.ensures.front_len c.loop-i-test.true ready.3 c.loop-i.invariant c.pass-heard.ensures
    (take-put_mid (2 * i) (2 * i + 2 - 2 * i) after out (2 * (i + 1)) (omega (arith, two)) room ∙ ap (λ t. take (2 * i) after ++ t) is)
    (drop-put_mid (2 * i) (2 * i + 2 - 2 * i) after out (2 * (i + 1)) (omega arith) room (omega (arith, two)))

pub returns : goal.returns
returns g c =
    let ready = c.in_ok-block_ready.ensures in
    (ready, progress_end _ _ _ _ _ _ _ _ (omega (arith, ready.2, c.as_chunks.ensures.front_len)) c.loop-i.invariant)
