use Rattle.std.proofs.Common.{◌≡◌, ℕ, ◌+◌, ◌<◌, true, false, List, [], map, length, get_or, Err, sym, ap, ◌∙◌, subst, rules}
use Rattle.std.proofs.lemmas.Result.{err_from_is_err_and}
use Rattle.faults.specs.declared.Place.{Place}
use Rattle.tokens.specs.Tokens.{Kind, bracket_opens}
use Rattle.tokens.specs.declared.Token.TheVariants.{Open}
use Rattle.reading.specs.declared.Placed.{Placed}
use Rattle.reading.specs.Items.{Item, item}
use Rattle.grammar.specs.declared.GrammarFault.TheVariants.{Unexpected, TooDeep}
use Rattle.grammar.specs.Machine.{move_of}
use Rattle.grammar.specs.Parsing.{wants_of, head_of, has_room, state_after, Sofar, AtFault, Parsed}
use Rattle.grammar.specs.Verdict.{kinds}
use Rattle.grammar.proofs.Turns.{stuck, ready, too_many, next, inside, placed_kind, placed_place}
use Rattle.grammar.proofs.parse_tokens.Goals as goal
use Rattle.grammar.proofs.parse_tokens.Goals.{After-move_of}

-- what stands at an index past the tokens
abbrev blank : Placed
blank = record { token = Open (record { ref_ptr = (0, 0); now = [] }); place = record { line = 0; column = 0 } }

module _ (c : After-move_of) where
  abbrev ts : List Item
  ts = map item c.args.tokens.now

  lt : c.loop-token.token-index < length ts
  lt = inside c.args.tokens.now c.loop-token.token-index blank c.loop-token-test.true

  said : c.move_of.result ≡ move_of (head_of (wants_of c.loop-token.parser)) (get_or (kinds ts) c.loop-token.token-index bracket_opens)
  said = c.move_of.ensures ∙ (λ j. move_of (c.due.ensures j) (placed_kind c.args.tokens.now c.loop-token.token-index blank c.loop-token-test.true j))

  abbrev place : Place
  place = (get_or c.args.tokens.now c.loop-token.token-index blank).place

  at_fault : {F : List Kind → ℕ → Type 0} → F (kinds ts) c.loop-token.token-index → AtFault F ts place
  at_fault f = record {
    index = c.loop-token.token-index;
    inside = lt;
    fault = f;
    place = placed_place c.args.tokens.now c.loop-token.token-index blank c.loop-token-test.true;
  }

pub returns-in_err-step : goal.returns-in_err-step
returns-in_err-step c =
    let d = (goal.at.returns-in_err-step c).After-move_of in
    let e = err_from_is_err_and c.from_residual.result c.from_residual.ensures.1 in
    let same : c.in_err-step.field-0.0 ≡ Unexpected (place d) = search rules in
    subst (Parsed (ts d)) (sym (e.1 ∙ ap Err (e.2 ∙ same)))
    (at_fault d (stuck (ts d) c.loop-token.token-index c.loop-token.parser c.loop-token.invariant (lt d) (sym (said d) ∙ c.in_err-step.ensures.ok_part)))

pub apply-requires : goal.apply-requires
apply-requires c =
    let d = (goal.at.apply-requires c).After-move_of in
    ready (ts d) c.loop-token.token-index c.loop-token.parser c.loop-token.invariant (lt d)
    c.in_ok-step.step (sym (said d) ∙ c.in_ok-step.ensures.ok_part)

pub returns-in_err-map_err : goal.returns-in_err-map_err
returns-in_err-map_err c =
    let d = (goal.at.returns-in_err-map_err c).After-move_of in
    let e = err_from_is_err_and c.from_residual-in_err-map_err.result c.from_residual-in_err-map_err.ensures.1 in
    let full : has_room c.in_ok-step.step c.loop-token.parser ≡ false = search rules in
    let same : c.in_err-map_err.field-0.0 ≡ TooDeep (place d) = search rules in
    subst (Parsed (ts d)) (sym (e.1 ∙ ap Err (e.2 ∙ same)))
    (at_fault d (too_many (ts d) c.loop-token.token-index c.loop-token.parser c.loop-token.invariant (lt d)
    c.in_ok-step.step (sym (said d) ∙ c.in_ok-step.ensures.ok_part) full))

pub loop-token-preserved : goal.loop-token-preserved
loop-token-preserved c =
    let d = (goal.at.loop-token-preserved c).After-move_of in
    let fits : has_room c.in_ok-step.step c.loop-token.parser ≡ true = search rules in
    let now : c.apply.new.self ≡ state_after c.in_ok-step.step c.loop-token.parser = search rules in
    subst (Sofar (kinds (ts d)) (c.loop-token.token-index + 1)) (sym now)
    (next (ts d) c.loop-token.token-index c.loop-token.parser c.loop-token.invariant (lt d)
    c.in_ok-step.step (sym (said d) ∙ c.in_ok-step.ensures.ok_part) fits)
