-- The look-up answers what the list of tokens says. Assumes nothing.
use Rattle.std.proofs.Common.{◌≡◌, ℕ, List, Ok, Err, Result, sym, refl, ap, ◌∙◌, arith}
use Rattle.tokens.specs.declared.WordFault.{WordFault}
use Rattle.tokens.specs.declared.WordFault.TheVariants.{Unlisted, OutOfRange}
use Rattle.tokens.specs.Tokens.{Kind, Lexeme, named, kind_of}
use Rattle.tokens.specs.Listed.{NotListed, Neighbour, Verdict, OneVerdict}
use Rattle.tokens.proofs.Blind.{word_cause}
use Rattle.tokens.proofs.Each.{near_kind}
use Rattle.tokens.proofs.ExactKinds.{listed}

not_listed : (w : List ℕ) (f : WordFault) → kind_of w ≡ Err f → NotListed w
not_listed w f e k l = let p = (listed w k).1 l in let z : ◌≡◌ {A = ℕ} 0 1 = cc in omega arith

listed_kind : (r : Result Kind WordFault) → word_cause r ≡ 0 → (k : Kind) × (r ≡ Ok k)
listed_kind (Ok k) e = (k, refl)
listed_kind (Err Unlisted) e = absurd (omega arith)
listed_kind (Err OutOfRange) e = absurd (omega arith)

-- a neighbour rules out what is unlisted, and there is one of what is out of range
no_neighbour : (w : List ℕ) → kind_of w ≡ Err Unlisted → Neighbour w → ⊥
no_neighbour w e n = near_kind.alike n.0 w n.3 (ap word_cause ((listed n.0 n.1).1 n.2)) (ap word_cause e)

neighbour : (w : List ℕ) → kind_of w ≡ Err OutOfRange → Neighbour w
neighbour w e =
    let n = near_kind.found w (ap word_cause e) in
    let k = listed_kind (kind_of n.0) n.1 in
    (n.0, k.0, (listed n.0 k.0).0 k.1, n.2)

verdict_by : (w : List ℕ) (r : Result Kind WordFault) → kind_of w ≡ r → Verdict w (named w r)
verdict_by w (Ok k) e = (refl, (listed w k).0 e)
verdict_by w (Err Unlisted) e = (not_listed w Unlisted e, no_neighbour w e)
verdict_by w (Err OutOfRange) e = (not_listed w OutOfRange e, neighbour w e)

pub verdict_of : (w : List ℕ) → Verdict w (named w (kind_of w))
verdict_of w = verdict_by w (kind_of w) refl

lexeme_of : List ℕ → Kind → Lexeme
lexeme_of w k = record { part = w; kind = k }

same_lexeme : (w : List ℕ) (l m : Lexeme) → Verdict w (Ok l) → Verdict w (Ok m) → l ≡ m
unfolding lexeme_of
same_lexeme w l m a b =
    let x = (listed w l.kind).1 a.1 in
    let y = (listed w m.kind).1 b.1 in
    let part : l.part ≡ m.part = a.0 ∙ sym b.0 in
    let kind : l.kind ≡ m.kind = cc in
    ap (λ w. lexeme_of w l.kind) part ∙ ap (lexeme_of m.part) kind

pub one_verdict : (w : List ℕ) → OneVerdict w
one_verdict w (Ok l) (Ok m) a b = ap Ok (same_lexeme w l m a b)
one_verdict w (Ok l) (Err Unlisted) a b = absurd (b.0 l.kind a.1)
one_verdict w (Ok l) (Err OutOfRange) a b = absurd (b.0 l.kind a.1)
one_verdict w (Err Unlisted) (Ok m) a b = absurd (a.0 m.kind b.1)
one_verdict w (Err Unlisted) (Err Unlisted) a b = refl
one_verdict w (Err Unlisted) (Err OutOfRange) a b = absurd (a.1 b.1)
one_verdict w (Err OutOfRange) (Ok m) a b = absurd (a.0 m.kind b.1)
one_verdict w (Err OutOfRange) (Err Unlisted) a b = absurd (b.1 a.1)
one_verdict w (Err OutOfRange) (Err OutOfRange) a b = refl
