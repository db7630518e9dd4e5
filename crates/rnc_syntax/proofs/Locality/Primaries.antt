-- The result of a reader depends only on the tokens it read and on the next one: primaries.
use Rattle.std.proofs.Common.{◌≡◌, List, [], ◌∷◌, Ok, refl}
use Rattle.rnc_model.specs.declared.token.Keyword.TheVariants as keywords
use Rattle.rnc_model.specs.declared.token.Sign.TheVariants.{OpenBrace, OpenParenthesis, CloseParenthesis}
use Rattle.rnc_syntax.specs.declared.atoms.Opening.{Opening}
use Rattle.rnc_syntax.specs.declared.atoms.Opening.TheVariants as openings
use Rattle.rnc_model.specs.tokens.Cut.{Lexeme, keyword, identifier, cname, segment, sign}
use Rattle.rnc_model.specs.grammar.Syntax as syntax
use Rattle.rnc_model.specs.grammar.Syntax.{written, NameClassAt, DatatypeName, PatternAt}
use Rattle.rnc_model.specs.grammar.Grammar.{Setting, content}
use Rattle.rnc_syntax.specs.plain.Combinators.{Outcome, ◌>>=◌, after, identifier_at, either_way}
use Rattle.rnc_syntax.specs.plain.Productions.{literal_at, parameters_at, in_braces_at, mention_at, class_with, Inside, braced_with, contents_with}
use Rattle.rnc_syntax.specs.plain.Productions.{named_with, begins_segment, typed_at, type_front, lone_front, other_at, atom_at, parens_with, opening_front}
use Rattle.rnc_syntax.specs.plain.Productions.{opened_with, bare_primary_with, primary_with}
use Rattle.rnc_syntax.proofs.Locality.{IsLocal, ok_local, stuck_end, stuck_front, cons_local, bind_local, after_local, identifier_local}
use Rattle.rnc_syntax.proofs.Locality.Fronts.{token_local, test_heads, if_local, FrontAt, closes, opens, either_local}
use Rattle.rnc_syntax.proofs.Locality.Annotations.{annotated_local}
use Rattle.rnc_syntax.proofs.Locality.Literals.{made_local, ended_local, in_braces_local, literal_local, parameters_local, mention_local}
use Rattle.rnc_syntax.proofs.Locality.Classes.{class_local}

-- the inside of brackets is read alike
pub record Locals (inside deeper : Inside) : Type 0 where
  pub class : IsLocal inside.class deeper.class
  pub pattern : IsLocal inside.pattern deeper.pattern
  pub components : (w : Setting) → IsLocal (inside.components w) (deeper.components w)

-- ---- primaries that contain no other pattern

pub same_segment : (t : Lexeme) (us vs : List Lexeme) → begins_segment (t ∷ us) ≡ begins_segment (t ∷ vs)
same_segment (segment w) us vs = refl
same_segment t us vs = refl

pub typed_local : (d : DatatypeName written) → IsLocal (typed_at d) (typed_at d)
unfolding typed_at
typed_local d ts =
    let value = λ (us : List Lexeme). literal_at us >>= λ v. Ok (syntax.value d v.0, v.1) in
    let data_of = λ (us : List Lexeme). parameters_at us >>= λ ps. Ok (syntax.data_of d ps.0, ps.1) in
    if_local begins_segment (test_heads begins_segment same_segment) value data_of value data_of ts
    (made_local literal_at literal_at (syntax.value d) literal_local ts) (made_local parameters_at parameters_at (syntax.data_of d) parameters_local ts)

other_local : IsLocal other_at other_at
unfolding other_at
other_local [] = stuck_end other_at other_at refl refl
other_local (keyword keywords.Parent s ∷ ts) = cons_local other_at other_at _ _ (keyword keywords.Parent s) ts (λ us. refl) (λ us. refl)
    (made_local identifier_at identifier_at syntax.parent_ref identifier_local ts)
other_local (keyword keywords.External s ∷ ts) = cons_local other_at other_at _ _ (keyword keywords.External s) ts (λ us. refl) (λ us. refl)
    (made_local (mention_at s.number) (mention_at s.number) syntax.external (mention_local s.number) ts)
other_local (segment w ∷ ts) = token_local other_at other_at _ _ (segment w) ts (λ us. refl) (λ us. refl)
    (made_local literal_at literal_at (syntax.value syntax.token_type) literal_local (segment w ∷ ts))
other_local (t ∷ ts) = stuck_front other_at other_at t ts (λ us. refl) (λ us. refl)

lone_part : (t : Lexeme) → FrontAt lone_front (λ x. Ok x) (λ x. Ok x) t
lone_part (keyword keywords.Empty s) = opens (λ us. (syntax.empty, us)) (λ us. refl) (ok_local syntax.empty)
lone_part (keyword keywords.Text s) = opens (λ us. (syntax.text, us)) (λ us. refl) (ok_local syntax.text)
lone_part (keyword keywords.NotAllowed s) = opens (λ us. (syntax.not_allowed, us)) (λ us. refl) (ok_local syntax.not_allowed)
lone_part (identifier n) = opens (λ us. (syntax.ref n, us)) (λ us. refl) (ok_local (syntax.ref n))
lone_part t = closes (λ us. refl)

abbrev typed_after : DatatypeName written × List Lexeme → Outcome (PatternAt written)
typed_after d = typed_at d.0 d.1

type_part : (t : Lexeme) → FrontAt type_front typed_after typed_after t
type_part (cname p w) = opens (λ us. (syntax.prefixed_type p w, us)) (λ us. refl) (typed_local (syntax.prefixed_type p w))
type_part (keyword keywords.String s) = opens (λ us. (syntax.string_type, us)) (λ us. refl) (typed_local syntax.string_type)
type_part (keyword keywords.Token s) = opens (λ us. (syntax.token_type, us)) (λ us. refl) (typed_local syntax.token_type)
type_part t = closes (λ us. refl)

atom_local : IsLocal atom_at atom_at
unfolding atom_at
atom_local ts =
    let lone = λ (us : List Lexeme). either_way (lone_front us) (other_at us) (λ x. Ok x) in
    either_local type_front refl typed_after typed_after type_part lone lone ts (either_local lone_front refl (λ x. Ok x) (λ x. Ok x) lone_part other_at
    other_at ts (other_local ts))

-- ---- primaries that contain others

module _ (inside deeper : Inside) (l : Locals inside deeper) (self : Locals deeper deeper) where
  braced_local : IsLocal (braced_with inside) (braced_with deeper)
  unfolding braced_with
  braced_local ts =
      bind_local (after OpenBrace) (after OpenBrace) (λ x us. in_braces_at inside.pattern us) (λ x us. in_braces_at deeper.pattern us) ts
      (after_local OpenBrace ts) (λ x rest e. in_braces_local inside.pattern deeper.pattern l.pattern rest)

  pub contents_local : (w : Setting) → IsLocal (contents_with inside w) (contents_with deeper w)
  unfolding contents_with
  contents_local w ts =
      bind_local (after OpenBrace) (after OpenBrace) (λ x us. in_braces_at (inside.components w) us) (λ x us. in_braces_at (deeper.components w) us) ts
      (after_local OpenBrace ts)
      (λ x rest e. in_braces_local (inside.components w) (deeper.components w) (l.components w) rest)

  named_local : (make : NameClassAt written → PatternAt written → PatternAt written) → IsLocal (named_with inside make) (named_with deeper make)
  unfolding named_with
  named_local make ts =
      bind_local (class_with inside.class) (class_with deeper.class) (λ c us. braced_with inside us
      >>= λ body. Ok (make c body.0, body.1)) (λ c us. braced_with deeper us >>= λ body. Ok (make c body.0, body.1)) ts
      (class_local inside.class deeper.class l.class self.class ts) (λ c rest e. made_local (braced_with inside) (braced_with deeper) (make c) braced_local
      rest)

  opened_local : (o : Opening) → IsLocal (opened_with inside o) (opened_with deeper o)
  unfolding opened_with parens_with
  opened_local openings.Element = named_local syntax.element
  opened_local openings.Attribute = named_local syntax.attribute
  opened_local openings.List = made_local (braced_with inside) (braced_with deeper) syntax.list braced_local
  opened_local openings.Mixed = made_local (braced_with inside) (braced_with deeper) syntax.mixed braced_local
  opened_local openings.Grammar = made_local (contents_with inside content) (contents_with deeper content) (λ cs. syntax.grammar (syntax.components_of cs))
      (contents_local content)
  opened_local openings.Parenthesis = ended_local CloseParenthesis inside.pattern deeper.pattern l.pattern

  opening_part : (t : Lexeme) → FrontAt opening_front (λ x. opened_with inside x.0 x.1) (λ x. opened_with deeper x.0 x.1) t
  opening_part (keyword keywords.Element s) = opens (λ us. (openings.Element, us)) (λ us. refl) (opened_local openings.Element)
  opening_part (keyword keywords.Attribute s) = opens (λ us. (openings.Attribute, us)) (λ us. refl) (opened_local openings.Attribute)
  opening_part (keyword keywords.List s) = opens (λ us. (openings.List, us)) (λ us. refl) (opened_local openings.List)
  opening_part (keyword keywords.Mixed s) = opens (λ us. (openings.Mixed, us)) (λ us. refl) (opened_local openings.Mixed)
  opening_part (keyword keywords.Grammar s) = opens (λ us. (openings.Grammar, us)) (λ us. refl) (opened_local openings.Grammar)
  opening_part (sign OpenParenthesis) = opens (λ us. (openings.Parenthesis, us)) (λ us. refl) (opened_local openings.Parenthesis)
  opening_part t = closes (λ us. refl)

  pub bare_primary_local : IsLocal (bare_primary_with inside) (bare_primary_with deeper)
  unfolding bare_primary_with
  bare_primary_local ts = either_local opening_front refl (λ x. opened_with inside x.0 x.1) (λ x. opened_with deeper x.0 x.1) opening_part atom_at atom_at ts
      (atom_local ts)

  pub primary_local : IsLocal (primary_with inside) (primary_with deeper)
  unfolding primary_with
  primary_local = annotated_local (bare_primary_with inside) (bare_primary_with deeper) bare_primary_local
