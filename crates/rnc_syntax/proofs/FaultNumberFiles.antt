-- Where the reading of a file stops at a token, some sentence begins with the tokens before it, and none with those up
-- to and including it.
use Rattle.std.proofs.Common.{◌≡◌, ℕ, ◌+◌, ◌-◌, List, [], ◌∷◌, ◌++◌, length, Ok, Err, refl, sym, ap, ◌∙◌}
use Rattle.rnc_syntax.specs.declared.fault.Stop.TheVariants.{Unexpected, TooDeep}
use Rattle.rnc_model.specs.tokens.Cut.{Lexeme}
use Rattle.rnc_model.specs.grammar.Syntax.{Declaration, File}
use Rattle.rnc_model.specs.grammar.Sentence.{IsStuckAt}
use Rattle.rnc_syntax.specs.plain.Combinators.{Outcome, ◌>>=◌}
use Rattle.rnc_syntax.specs.plain.Productions.{Inside, inside_at, body_with, if_ended, declarations_at, file_with}
use Rattle.rnc_syntax.proofs.ReadItems.{bind_bind}
use Rattle.rnc_syntax.proofs.Locality.{SameHead, LocalAt, reads, stuck as stuck_there, deep, IsLocal, bind_local}
use Rattle.rnc_syntax.proofs.Locality.Literals.{made_local}
use Rattle.rnc_syntax.proofs.Locality.Primaries.{Locals}
use Rattle.rnc_syntax.proofs.Locality.Components.{inside_local, self_local}
use Rattle.rnc_syntax.proofs.Locality.Files.{declarations_local, body_local}
use Rattle.rnc_syntax.proofs.FaultNumber.{IsStuckBehind, stuck_at}
use Rattle.rnc_syntax.proofs.Viability.Files.{file_of, viable}

-- a file, with any tokens after it
abbrev body_read : Inside → List Declaration → List Lexeme → Outcome File
body_read inside declarations us = body_with inside us >>= λ body. Ok (file_of declarations body.0, body.1)

abbrev file_read : Inside → List Lexeme → Outcome File
file_read inside us = declarations_at us >>= λ declarations. body_read inside declarations.0 declarations.1

file_is : (inside : Inside) (ts : List Lexeme) → file_with inside ts ≡ (file_read inside ts >>= λ file. if_ended file.0 file.1)
unfolding file_with
file_is inside ts =
    (λ i. declarations_at ts >>= λ declarations. sym (bind_bind {B = File × List Lexeme} (body_with inside declarations.1)
    (λ body. Ok (file_of declarations.0 body.0, body.1)) (λ file. if_ended file.0 file.1)) i)
    ∙ sym (bind_bind {B = File × List Lexeme} (declarations_at ts) (λ declarations. body_read inside declarations.0 declarations.1)
    (λ file. if_ended file.0 file.1))

file_local : (inside deeper : Inside) → Locals inside deeper → Locals deeper deeper → IsLocal (file_read inside) (file_read deeper)
file_local inside deeper l self ts =
    bind_local declarations_at declarations_at (body_read inside) (body_read deeper) ts (declarations_local ts)
    (λ declarations rest e. made_local (body_with inside) (body_with deeper) (file_of declarations) (body_local inside deeper l self) rest)

-- ---- the end of the file

module _ (inside : Inside) (ts : List Lexeme) where
  read_then : (file : File) (rest : List Lexeme) → file_read inside ts ≡ Ok (file, rest) → file_with inside ts ≡ if_ended file rest
  read_then file rest e = file_is inside ts ∙ ap (λ (r : Outcome File). r >>= λ file. if_ended file.0 file.1) e

  stuck_then : (left : ℕ) → file_read inside ts ≡ Err (Unexpected left) → file_with inside ts ≡ Err (Unexpected left)
  stuck_then left e = file_is inside ts ∙ ap (λ (r : Outcome File). r >>= λ file. if_ended file.0 file.1) e

  deep_then : file_read inside ts ≡ Err TooDeep → file_with inside ts ≡ Err TooDeep
  deep_then e = file_is inside ts ∙ ap (λ (r : Outcome File). r >>= λ file. if_ended file.0 file.1) e

ended_alike : (file : File) (x : Lexeme) (rest other : List Lexeme) → SameHead (x ∷ rest) other → if_ended file other ≡ Err (Unexpected (length other))
ended_alike file x rest [] h = absurd h
ended_alike file x rest (y ∷ other) h = refl

behind_read : (n m : ℕ) (ts : List Lexeme) (left : ℕ) (file : File) (front rest : List Lexeme) → ts ≡ front ++ rest → file_with (inside_at n) ts ≡ if_ended file
    rest → file_with (inside_at n) ts ≡ Err (Unexpected left)
    → ((other : List Lexeme) → SameHead rest other → file_read (inside_at m) (front ++ other) ≡ Ok (file, other)) → IsStuckBehind m ts left
behind_read n m ts left file front [] parts is e same = absurd cc
behind_read n m ts left file front (x ∷ rest) parts is e same =
    record {
      front = front;
      rest = x ∷ rest;
      parts = parts;
      count = cc;
      same = λ other h. read_then (inside_at m) (front ++ other) file other (same other h)
          ∙ ended_alike file x rest other h;
    }

same_left : (n : ℕ) (ts : List Lexeme) (left other : ℕ) → file_with (inside_at n) ts ≡ Err (Unexpected left)
    → file_with (inside_at n) ts ≡ Err (Unexpected other) → left ≡ other
same_left n ts left other e f = cc

not_deep : (n : ℕ) (ts : List Lexeme) (left : ℕ) → file_with (inside_at n) ts ≡ Err (Unexpected left) → file_with (inside_at n) ts ≡ Err TooDeep → ⊥
not_deep n ts left e f = absurd cc

behind : (n m : ℕ) (ts : List Lexeme) (left : ℕ) → file_with (inside_at n) ts ≡ Err (Unexpected left)
    → LocalAt (file_read (inside_at n)) (file_read (inside_at m)) ts → IsStuckBehind m ts left
behind n m ts left e (reads file front rest parts is same) = behind_read n m ts left file front rest parts (read_then (inside_at n) ts file rest is) e same
behind n m ts left e (stuck_there front rest parts is same) =
    record {
      front = front;
      rest = rest;
      parts = parts;
      count = same_left n ts left (length rest) e (stuck_then (inside_at n) ts (length rest) is);
      same = λ other h. stuck_then (inside_at m) (front ++ other) (length other) (same other h);
    }
behind n m ts left e (deep is) = absurd (not_deep n ts left e (deep_then (inside_at n) ts is))

-- the number of the token where the reading stopped
pub stuck : (n : ℕ) (ts : List Lexeme) (left : ℕ) → file_with (inside_at n) ts ≡ Err (Unexpected left) → IsStuckAt ts (length ts - left + 1)
stuck n ts left e = stuck_at n ts left (viable n ts left e)
    (λ m le. behind n m ts left e (file_local (inside_at n) (inside_at m) (inside_local n m le) (self_local m) ts))
