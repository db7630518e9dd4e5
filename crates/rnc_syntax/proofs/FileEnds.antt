-- A file that is read to its end, and one that leaves tokens unread.
use Rattle.std.proofs.Common.{◌≡◌, ℕ, ◌<◌, List, [], ◌∷◌, length, Result, Ok, Err, refl, sym, ap, arith}
use Rattle.rnc_model.specs.declared.token.Token.{Token}
use Rattle.rnc_syntax.specs.declared.fault.Stop.TheVariants.{Unexpected}
use Rattle.rnc_syntax.specs.declared.fault.ReadFault.{ReadFault}
use Rattle.rnc_syntax.specs.declared.fault.ReadFault.TheVariants as read_faults
use Rattle.rnc_model.specs.tokens.Cut.{Lexeme}
use Rattle.rnc_syntax.specs.plain.Reading.{lexemes_in}
use Rattle.rng_model.specs.plain.Answers.{Gives, Refuses}
use Rattle.rnc_syntax.specs.views.Fault.{stop_of}
use Rattle.rnc_syntax.specs.plain.Productions.{Inside, body_with, declarations_at, file_with, if_ended}
use Rattle.rnc_model.specs.grammar.Syntax.{Body, Declaration, File}

-- tokens are left
pub not_ended : {A : Type 0} (value : A) (total : ℕ) (left : List Token) (fault : ReadFault) → 0 < length left
    → fault ≡ read_faults.Stop (Unexpected (length (lexemes_in total left))) → Refuses (stop_of fault) (if_ended value (lexemes_in total left))
not_ended value total [] fault some is = absurd (omega (arith, some))
not_ended value total (t ∷ left) fault some is = rw is refl

-- what is seen of the value
seen : {A B : Type 0} (view : A → B) (result : Result A ReadFault) (value : A) (left : List Lexeme) → Gives stop_of (λ v. v) result (if_ended value left)
    → Gives stop_of view result (if_ended (view value) left)
seen view (Ok found) value [] is = let same : value ≡ found = cc in ap (λ v. Ok (view v)) same
seen view (Ok found) value (x ∷ left) is = absurd cc
seen view (Err read_faults.Memory) value left is = tt
seen view (Err (read_faults.Stop stop)) value [] is = absurd cc
seen view (Err (read_faults.Stop stop)) value (x ∷ left) is = let same : Unexpected (length (x ∷ left)) ≡ stop = cc in ap (λ s. Err s) same

-- a file of declarations and a body, if no token is left after them
pub file_ends : {A : Type 0} (view : A → File) (result : Result A ReadFault) (value : A) (inside : Inside) (ts rest left : List Lexeme)
    (declarations : List Declaration) (body : Body) → declarations_at ts ≡ Ok (declarations, rest) → body_with inside rest ≡ Ok (body, left)
    → view value ≡ record { declarations = declarations; body = body } → Gives stop_of (λ v. v) result (if_ended value left)
    → Gives stop_of view result (file_with inside ts)
unfolding file_with
file_ends view result value inside ts rest left declarations body d b is gives =
    rw (d, b, sym is) (seen view result value left gives)
