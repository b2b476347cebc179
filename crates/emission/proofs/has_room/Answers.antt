use Rattle.emission.proofs.Fills.{room_few, room_many}
use Rattle.emission.proofs.has_room.Goals as goal

pub returns-then-tokens-le2048 : goal.returns-then-tokens-le2048
returns-then-tokens-le2048 c = room_few c.args.tokens.now c.count.result c.count.ensures.total c.if-tokens-le2048.true

pub returns-else-tokens-le2048 : goal.returns-else-tokens-le2048
returns-else-tokens-le2048 c = room_many c.args.tokens.now c.if-tokens-le2048.false
