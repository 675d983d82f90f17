use Rattle.std.proofs.Common.{string_bytes, append_assoc}
use Rattle.arguments.specs.View.{bytes_of}
use Rattle.printing.proofs.Texts.{pieces_more, pieces_all}
use Rattle.printing.proofs.placed_text.Goals as goal

pub loop-place-preserved : goal.loop-place-preserved
loop-place-preserved c = pieces_more (bytes_of c.args.params.now) c.args.args.now c.loop-place.place _ (string_bytes c.loop-place.out) (string_bytes c.push_argument.new.out) _ c.loop-place-test.true c.in_ok-push_argument.ensures c.loop-place.invariant

pub returns : goal.returns
returns c =
    let all = pieces_all (bytes_of c.args.params.now) c.args.args.now c.loop-place.place (string_bytes c.loop-place.out) _ c.loop-place-test.false c.loop-place.invariant in
    rw (c.in_ok-push_ascii-2.ensures, all, c.in_ok-push_ascii.ensures, c.in_ok-push_label.ensures.value, c.new-out.ensures.bytes) (simp append_assoc)
