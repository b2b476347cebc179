-- What the parts of compiling make together. Assumes nothing.
use Rattle.std.proofs.Common.{◌≡◌, ℕ, ◌<◌, ◌≤◌, true, ltb, leb, List, [], ◌∷◌, map, length, take, Ok, Err, sym, refl, ap, ◌∙◌, subst, arith, lt-ltb, le-leb}
use Rattle.std.proofs.lemmas.List.{length-map}
use Rattle.std.proofs.lemmas.Bool.{and_from}
use Rattle.scanning.specs.Text.{longest}
use Rattle.tokens.specs.Tokens.{Kind}
use Rattle.reading.specs.declared.Placed.{Placed}
use Rattle.reading.specs.Items.{Item, item}
use Rattle.reading.specs.Verdict.{Verdict as Read}
use Rattle.grammar.specs.Grammar.{Module, module_of, closing, spell_cmds, spell_modules, spell}
use Rattle.grammar.specs.Verdict.{item_kind, kinds, MemoryAfter, Accepted as Parsed}
use Rattle.program.specs.declared.record.Program.{Program}
use Rattle.program.specs.Sound.{padded}
use Rattle.meaning.specs.Code.{code}
use Rattle.emission.specs.Claims.{AllKnown}
use Rattle.emission.specs.Emission.{total, emitted, place_in, fits}
use Rattle.emission.proofs.Turns.{weight_small}
use Rattle.emission.proofs.Known.{known_tokens}
use Rattle.emission.proofs.Trees.{code_by_tokens, places_by_tokens}
use Rattle.linking.specs.declared.LinkFault.{LinkFault}
use Rattle.linking.specs.declared.figures.Figures.{Figures}
use Rattle.linking.specs.Order.{NoneBroken}
use Rattle.linking.specs.Rules.{token_rules, Overweight}
use Rattle.linking.specs.Verdict.{Written, Verdict}
use Rattle.linking.specs.Judging.{Assembled, Light, FaultIn, LinkedAs, ListText}
use Rattle.linking.proofs.Levels.{not_overweight}

-- ---- of a text that is read
pub short : (text : List ℕ) (ts : List Item) → Read text (Ok ts) → length text ≤ longest
short text ts r = r.cut.0

pub known : (text : List ℕ) (ts : List Item) → Read text (Ok ts) → AllKnown (kinds ts)
known text ts r = known_tokens r.words ts r.so.0

total_most : (ks : List Kind) → total ks ≤ length ks
total_most [] = omega arith
total_most (k ∷ ks) = omega (arith, total_most ks, weight_small k)

-- a list has a label, which makes no instruction
total_less : (ms : List Module) → length (spell ms) ≤ 2048 → total (spell ms) < 2048
total_less [] le = omega arith
total_less (module_of n cs ∷ ms) le = omega (arith, total_most (spell_cmds cs (closing n ∷ spell_modules ms [])))

pub room : (text : List ℕ) (ts : List Item) (ms : List Module) → Written text ts ms → fits (kinds ts) ≡ true
room text ts ms w =
    let le : length (kinds ts) ≤ 2048 = omega (arith, w.read.so.1, length-map ts item_kind) in
    let lt : total (kinds ts) < 2048 = subst (λ (ks : List Kind). total ks < 2048) w.spelled (total_less ms (omega (arith, ap length w.spelled))) in
    and_from (leb (length (kinds ts)) 2048) (ltb (total (kinds ts)) 2048) (le-leb (length (kinds ts)) 2048 le) (lt-ltb (total (kinds ts)) 2048 lt)

-- ---- the record of a list that breaks no rule
module _ (text : List ℕ) (ts : List Item) (ms : List Module) (w : Written text ts ms) (lawful : NoneBroken (token_rules (kinds ts))) where
  pub linked : (p : Program) (f : Figures) → Assembled (kinds ts) p → Light ms f → LinkedAs text p f
  linked p f a l =
      let c : emitted (kinds ts) ≡ code ms = ap emitted (sym w.spelled) ∙ code_by_tokens ms in
      let at = λ (n : ℕ). ap (place_in n 0) (sym w.spelled) ∙ places_by_tokens ms n in
      record {
        modules = ms;
        accepted = record {
          tokens = ts;
          written = w;
          lawful = (lawful.0, (lawful.1.0, (lawful.1.1.0, (lawful.1.1.1.0, (not_overweight (kinds ts) ms l.quick_light l.slow_light, tt)))));
          quick = l.quick;
          slow = l.slow;
        };
        recorded = record {
          instructions = a.instructions ∙ ap padded c;
          len = a.len ∙ ap length c;
          quick = a.quick ∙ at 1;
          slow = a.slow ∙ at 0;
          quick_figure = l.quick;
          slow_figure = l.slow;
        };
      }

  pub weight_fault : (e : LinkFault) → FaultIn (Overweight (kinds ts) ms) text ts e → Verdict text (Err e)
  weight_fault e h =
      subst (λ (x : LinkFault). Verdict text (Err x)) (sym h.fault)
      (record {
        tokens = ts;
        modules = ms;
        index = h.index;
        written = w;
        broken = (lawful.0, (lawful.1.0, (lawful.1.1.0, (lawful.1.1.1.0, h.broken))));
        place = refl;
      })

-- ---- from what the grammar answers
pub parsed_list : (text : List ℕ) (new old : List Placed) (s : _) → Parsed text s → MemoryAfter text new old → ListText text (map item (take s.tokens new))
parsed_list text new old s h m =
    let front = (m (Ok h.tokens) h.read).0 in
    let n : length h.tokens ≡ s.tokens = omega (arith, h.token_count) in
    let e : h.tokens ≡ map item (take s.tokens new) = sym front ∙ ap (λ k. map item (take k new)) n in
    (h.modules, subst (λ (ts : List Item). Written text ts h.modules) e (record { read = h.read; spelled = h.spelled; within = h.within }))
