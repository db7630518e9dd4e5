-- Each item of a list takes at least one token, so that a loop over the items ends.
use Rattle.std.proofs.Common.{◌≡◌, ℕ, ◌<◌, List, length, Some, Ok, refl, arith}
use Rattle.rnc_model.specs.declared.token.Token.{Token}
use Rattle.rnc_model.specs.declared.token.Sign.{Sign}
use Rattle.rnc_model.specs.declared.token.Sign.TheVariants.{Bar, Tilde}
use Rattle.rnc_model.specs.grammar.Grammar.{Setting}
use Rattle.rnc_model.specs.grammar.Syntax.{written, NameClassAt, PatternAt, ComponentAt, Declaration}
use Rattle.rnc_model.specs.tokens.Cut.{Lexeme}
use Rattle.rnc_syntax.specs.plain.Combinators.{follow, segment_at}
use Rattle.rnc_syntax.specs.plain.Productions.{annotated_parameter_at, basic_with, component_front, component_with, declaration_at, declaration_front}
use Rattle.rnc_syntax.specs.plain.Productions.{inside_at, parameter_front, particle_with}
use Rattle.rnc_syntax.specs.plain.Reading.{lexemes_in}
use Rattle.rnc_syntax.proofs.Lexemes.{length_of_lexemes}
use Rattle.rnc_syntax.proofs.Locality.{segment_local}
use Rattle.rnc_syntax.proofs.Locality.Fronts.{follow_front}
use Rattle.rnc_syntax.proofs.Locality.Items.{takes}
use Rattle.rnc_syntax.proofs.Locality.Literals.{parameter_part}
use Rattle.rnc_syntax.proofs.Locality.Classes.{basic_local}
use Rattle.rnc_syntax.proofs.Locality.Patterns.{particle_local}
use Rattle.rnc_syntax.proofs.Locality.Components.{component_part, self_local}
use Rattle.rnc_syntax.proofs.Locality.Files.{declaration_part}

-- there are fewer tokens where there are fewer lexemes
pub fewer : (total : ℕ) (us ts : List Token) → length (lexemes_in total us) < length (lexemes_in total ts) → length us < length ts
fewer total us ts less = omega (arith, less, length_of_lexemes total us, length_of_lexemes total ts)

pub segment_taken : (ts us : List Lexeme) (x : List ℕ × List Lexeme) → follow Tilde ts ≡ Some us → segment_at us ≡ Ok x → length x.1 < length ts
segment_taken = takes (follow Tilde) refl segment_at segment_at (follow_front segment_at segment_at segment_local Tilde)

pub parameter_taken : (ts us : List Lexeme) (x : (List ℕ × List ℕ) × List Lexeme) → parameter_front ts ≡ Some us → annotated_parameter_at us ≡ Ok x
    → length x.1 < length ts
parameter_taken = takes parameter_front refl annotated_parameter_at annotated_parameter_at parameter_part

pub declaration_taken : (ts us : List Lexeme) (x : Declaration × List Lexeme) → declaration_front ts ≡ Some us → declaration_at us ≡ Ok x
    → length x.1 < length ts
declaration_taken = takes declaration_front refl declaration_at declaration_at declaration_part

module _ (n : ℕ) where
  pub class_taken : (ts us : List Lexeme) (x : NameClassAt written × List Lexeme) → follow Bar ts ≡ Some us → basic_with (inside_at n).class us ≡ Ok x
      → length x.1 < length ts
  class_taken =
      let basic = basic_with (inside_at n).class in
      takes (follow Bar) refl basic basic (follow_front basic basic (basic_local (inside_at n).class (inside_at n).class (self_local n).class) Bar)

  pub particle_taken : (s : Sign) (ts us : List Lexeme) (x : PatternAt written × List Lexeme) → follow s ts ≡ Some us → particle_with (inside_at n) us ≡ Ok x
      → length x.1 < length ts
  particle_taken s =
      let particle = particle_with (inside_at n) in
      takes (follow s) refl particle particle (follow_front particle particle (particle_local (inside_at n) (inside_at n) (self_local n) (self_local n)) s)

  pub component_taken : (w : Setting) (ts us : List Lexeme) (x : ComponentAt written × List Lexeme) → component_front w ts ≡ Some us
      → component_with (inside_at n) w us ≡ Ok x → length x.1 < length ts
  component_taken w =
      let component = component_with (inside_at n) w in
      takes (component_front w) refl component component (component_part (inside_at n) (inside_at n) (self_local n) (self_local n) w)
