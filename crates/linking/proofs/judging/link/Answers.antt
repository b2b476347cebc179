use Rattle.linking.proofs.Joining.{parsed_list}
use Rattle.linking.proofs.judging.link.Goals as goal

pub link-requires : goal.link-requires
link-requires c = parsed_list c.args.text.now c.parse.new.memory _ c.in_ok-shape.shape c.in_ok-shape.ensures.verdict c.parse.ensures.memory
