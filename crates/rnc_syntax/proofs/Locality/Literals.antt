-- The result of a reader depends only on the tokens it read and on the next one: literals, parameters and mentions.
use Rattle.std.proofs.Common.{ℕ, List, [], ◌∷◌, Some, None, Ok, refl}
use Rattle.rnc_model.specs.declared.token.Keyword.TheVariants as keywords
use Rattle.rnc_model.specs.declared.token.Sign.{Sign}
use Rattle.rnc_model.specs.declared.token.Sign.TheVariants.{Equal, OpenBrace, CloseBrace, OpenBracket, Tilde}
use Rattle.rnc_model.specs.tokens.Cut.{Lexeme, keyword, identifier, sign}
use Rattle.rnc_syntax.specs.plain.Combinators.{Outcome, ◌>>=◌, follow, follow_keyword, after, word_at, segment_at, many}
use Rattle.rnc_syntax.specs.plain.Productions.{annotation_at, literal_at, parameter_at, parameter_front, annotated_parameter_at, in_braces_at, parameters_at}
use Rattle.rnc_syntax.specs.plain.Productions.{word_after_equal, inherit_at, mention_at}
use Rattle.rnc_model.specs.grammar.SyntaxTrees.{joined_text}
use Rattle.rnc_syntax.proofs.Locality.{IsLocal, ok_local, bind_local, after_local, word_local, segment_local}
use Rattle.rnc_syntax.proofs.Locality.Fronts.{FrontAt, closes, opens, either_local, follow_front, follow_keyword_front}
use Rattle.rnc_syntax.proofs.Locality.Items.{many_local}
use Rattle.rnc_syntax.proofs.Locality.Annotations.{opened_local}

-- ---- a reader, and then what is made of its value

pub made_local : {A B : Type 0} (read deeper : List Lexeme → Outcome A) (make : A → B) → IsLocal read deeper
    → IsLocal (λ us. read us >>= λ x. Ok (make x.0, x.1)) (λ us. deeper us >>= λ x. Ok (make x.0, x.1))
made_local read deeper make l ts = bind_local read deeper (λ x us. Ok (make x, us)) (λ x us. Ok (make x, us)) ts (l ts) (λ x rest e. ok_local (make x) rest)

-- ---- literals, parameters and mentions

segments_local : IsLocal (many (follow Tilde) segment_at) (many (follow Tilde) segment_at)
segments_local = many_local (follow Tilde) refl segment_at segment_at (follow_front segment_at segment_at segment_local Tilde)
    (follow_front segment_at segment_at segment_local Tilde)

pub literal_local : IsLocal literal_at literal_at
unfolding literal_at
literal_local ts =
    let f = λ (x : List ℕ) (us : List Lexeme). many (follow Tilde) segment_at us >>= λ others. Ok (joined_text (x ∷ others.0), others.1) in
    bind_local segment_at segment_at f f ts (segment_local ts) (λ x rest e. made_local (many (follow Tilde) segment_at) (many (follow Tilde) segment_at)
    (λ others. joined_text (x ∷ others)) segments_local rest)

-- a reader, and then a closing sign
pub ended_local : {A : Type 0} (s : Sign) (read deeper : List Lexeme → Outcome A) → IsLocal read deeper
    → IsLocal (λ us. read us >>= λ body. after s body.1 >>= λ end. Ok (body.0, end.1)) (λ us. deeper us >>= λ body. after s body.1
    >>= λ end. Ok (body.0, end.1))
ended_local {A} s read deeper l ts =
    let f = λ (x : A) (us : List Lexeme). after s us >>= λ end. Ok (x, end.1) in
    bind_local read deeper f f ts (l ts) (λ x rest e. made_local (after s) (after s) (λ u. x) (after_local s) rest)

pub in_braces_local : {A : Type 0} (read deeper : List Lexeme → Outcome A) → IsLocal read deeper → IsLocal (in_braces_at read) (in_braces_at deeper)
unfolding in_braces_at
in_braces_local read deeper l = ended_local CloseBrace read deeper l

-- ---- parameters and mentions

-- what follows the name of a parameter
value_local : (name : List ℕ) → IsLocal {A = List ℕ × List ℕ} (λ us. after Equal us >>= λ equal. literal_at equal.1 >>= λ value. Ok ((name, value.0), value.1))
    (λ us. after Equal us >>= λ equal. literal_at equal.1 >>= λ value. Ok ((name, value.0), value.1))
value_local name ts =
    let f = λ (x : Unit {0}) (us : List Lexeme). literal_at us >>= λ value. Ok ((name, value.0), value.1) in
    bind_local (after Equal) (after Equal) f f ts (after_local Equal ts) (λ x rest e. made_local literal_at literal_at (λ value. (name, value)) literal_local
    rest)

pub parameter_local : IsLocal parameter_at parameter_at
unfolding parameter_at
parameter_local ts =
    let f = λ (name : List ℕ) (us : List Lexeme). after Equal us >>= λ equal. literal_at equal.1 >>= λ value. Ok ((name, value.0), value.1) in
    bind_local word_at word_at f f ts (word_local ts) (λ name rest e. value_local name rest)

pub parameter_part : (t : Lexeme) → FrontAt parameter_front annotated_parameter_at annotated_parameter_at t
unfolding annotated_parameter_at annotation_at parameter_at word_at
parameter_part (identifier w) = opens (λ us. identifier w ∷ us) (λ us. refl) (value_local w)
parameter_part (keyword k s) = opens (λ us. keyword k s ∷ us) (λ us. refl) (value_local s.text)
parameter_part (sign OpenBracket) = opens (λ us. sign OpenBracket ∷ us) (λ us. refl) (opened_local parameter_at parameter_at parameter_local)
parameter_part t = closes (λ us. refl)

pub parameters_local : IsLocal parameters_at parameters_at
unfolding parameters_at
parameters_local ts =
    let all = many parameter_front annotated_parameter_at in
    let inner = in_braces_at all in
    let l = in_braces_local all all (many_local parameter_front refl annotated_parameter_at annotated_parameter_at parameter_part parameter_part) in
    either_local (follow OpenBrace) refl inner inner (follow_front inner inner l OpenBrace) (λ us. Ok ([], us)) (λ us. Ok ([], us)) ts (ok_local [] ts)

word_after_local : IsLocal word_after_equal word_after_equal
unfolding word_after_equal
word_after_local ts =
    let f = λ (x : Unit {0}) (us : List Lexeme). word_at us >>= λ word. Ok (Some word.0, word.1) in
    bind_local (after Equal) (after Equal) f f ts (after_local Equal ts) (λ x rest e. made_local word_at word_at (λ word. Some word) word_local rest)

inherit_local : IsLocal inherit_at inherit_at
unfolding inherit_at
inherit_local ts = either_local (follow_keyword keywords.Inherit) refl word_after_equal word_after_equal
    (follow_keyword_front word_after_equal word_after_equal word_after_local keywords.Inherit) (λ us. Ok (None, us)) (λ us. Ok (None, us)) ts (ok_local None ts)

pub mention_local : (number : ℕ) → IsLocal (mention_at number) (mention_at number)
unfolding mention_at
mention_local number ts =
    let f = λ (href : List ℕ) (us : List Lexeme). inherit_at us >>= λ prefix. Ok (record { href = href; inherit = prefix.0; token = number }, prefix.1) in
    bind_local literal_at literal_at f f ts (literal_local ts)
    (λ href rest e. made_local inherit_at inherit_at (λ prefix. record { href = href; inherit = prefix; token = number }) inherit_local rest)
