use Rattle.std.proofs.Common.{ℕ, List, [], ◌++◌, sym, refl, subst, ap, ◌∙◌, ap₂, append-nil, drop, arith, length, length-append, take_all}
use Rattle.stream.specs.Pieces.{Pieced, heard_of, pages_of}
use Rattle.stream.proofs.Cuts.{no_piece}
use Rattle.stream.proofs.Piecewise.{byte_more, halves_count, waits_most, written_more}
use Rattle.stream.proofs.streams.state.Stream.filter.Goals as goal
use Rattle.stream.proofs.streams.state.Stream.filter.Goals.{in-Some, in_default}

pub loop-byte-init : goal.loop-byte-init
loop-byte-init g c = ([], [], no_piece _ _ _ _, refl, refl, omega (arith, waits_most c.args.self.now.low))

pub loop-byte-preserved : goal.loop-byte-preserved
loop-byte-preserved g c =
    let I = c.loop-byte.invariant in
    let x = c.push.result in
    let h = halves_count x c.loop-byte.self.low c.push.new.self.low c.push.ensures.halves in
    let more = byte_more _ _ _ _ _ _ _ _ c.args.piece.now I.0 (heard_of x) c.loop-byte.byte-index I.1 (pages_of x) c.loop-byte-test.true I.2 c.push.ensures.piece in
    let I0x = length-append I.0 (heard_of x) in
    elim c.match-push.branch [
      | in-Some w ↦
          let is = ap heard_of w.in-Some.is in
          let two = w.in-Some.ensures.halves.2 in (
            I.0 ++ heard_of x,
            I.1 ++ pages_of x,
            more,
            omega (arith, w.at-is, I.3, I0x, ap length is, two),
            w.out-is ∙ written_more I.0 c.args.out.now _ _ (heard_of x) _ _ _ I.4 I.3 (w.copy_from_slice.ensures.after ∙ sym is) (omega (arith, w.at-is)),
            omega (arith, w.at-is, I.5, h, ap length is, two),
          )
      | in_default w ↦
          let is = ap heard_of w.in_default.is in (
            I.0 ++ heard_of x,
            I.1 ++ pages_of x,
            more,
            omega (arith, w.at-is, I.3, I0x, ap length is),
            w.out-is ∙ I.4 ∙ ap₂ (λ (t : List ℕ) n. t ++ drop n c.args.out.now) (sym (ap (λ (t : List ℕ). I.0 ++ t) is ∙ append-nil I.0)) (sym w.at-is),
            omega (arith, w.at-is, I.5, h, ap length is),
          )
    ]

pub returns : goal.returns
returns g c =
    let I = c.loop-byte.invariant in
    let e = take_all c.loop-byte.byte-index c.args.piece.now (omega arith) in
    let s = c.args.self.now in
    let t = c.loop-byte.self in (
      omega arith,
      record {
        out = I.0;
        pages = I.1;
        through = subst (λ (p : List ℕ). Pieced g.P.Port g.C.Closing s.session.rig s.low p I.0 I.1 t.session.rig t.low) e I.2;
        count = I.3;
        within = omega (arith, I.5);
        written = I.4;
      },
    )
