use Rattle.buffer.proofs.Puts.{put_part}
use Rattle.buffer.proofs.put_bytes.Goals as goal

pub returns : goal.returns
returns c =
    put_part c.args.out.now c.copy_from_slice.new.self c.args.bytes.now c.args.at c.in_ok-end.end
    c.copy_from_slice.ensures.after c.in_ok-end.ensures.1 c.if-end-out.false
