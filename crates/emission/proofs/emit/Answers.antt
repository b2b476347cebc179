use Rattle.std.proofs.Common.{sym}
use Rattle.grammar.specs.Verdict.{kinds_of}
use Rattle.emission.proofs.Fills.{written, refused_length, refused_code, made_length}
use Rattle.emission.proofs.Trees.{code_by_tokens}
use Rattle.emission.proofs.Soundness.{sound_code}
use Rattle.emission.proofs.emit.Goals as goal

pub returns-then-not-has_room : goal.returns-then-not-has_room
returns-then-not-has_room c = record {
  answer = refused_length (kinds_of c.args.tokens.now) c.if-not-has_room.ensures;
  code = refused_code (kinds_of c.args.tokens.now) c.args.code.now c.if-not-has_room.ensures;
  tree = code_by_tokens;
  sound = sound_code;
}

pub returns : goal.returns
returns c = record {
  answer = made_length (kinds_of c.args.tokens.now) c.fill-n.result c.if-not-has_room.ensures c.fill-n.ensures.count;
  code = written c.args.tokens.now c.args.code.now _ _ c.told-code (sym c.if-not-has_room.ensures) c.fill-n.ensures.count c.fill-n.ensures.code;
  tree = code_by_tokens;
  sound = sound_code;
}
