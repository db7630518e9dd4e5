-- The place that is returned is that of the first datatype that breaks the clause.
use Rattle.std.proofs.Common.{◌≡◌, ℕ, List, Option, Some, None, Ok, Err, subst, sym}
use Rattle.rng_model.specs.declared.type_set.TypeSet.{TypeSet}
use Rattle.rng_model.specs.plain.Answers.{Gives, Refuses}
use Rattle.rnc_grammar.specs.declared.fault.ParseFault.{ParseFault}
use Rattle.rnc_grammar.specs.views.ParsingFaults.{unless_memory}
use Rattle.rnc_grammar.specs.views.View.{file_of}
use Rattle.rnc_model.specs.characters.Decoding.{IsDecoded}
use Rattle.rnc_model.specs.declarations.FileTree.{FileTree}
use Rattle.rnc_model.specs.declared.character.Character.{Character}
use Rattle.rnc_model.specs.declared.file_place.FilePlace.{FilePlace}
use Rattle.rnc_model.specs.loading.DatatypePlaces.{BreaksDatatypeAt, BreaksDatatypesAt, HasBrokenDatatype}
use Rattle.rnc_model.specs.loading.FaultPlaces.{IsPlaceOfToken}
use Rattle.rnc_model.specs.loading.SchemaFile.{IsFileTree}
use Rattle.rnc_model.specs.tokens.Cut.{HasTokens, Lexeme, Token, lexemes}
use Rattle.rnc_places.specs.views.Told.{IsBrokenNumber}
use Rattle.rnc_text.specs.declared.fault.TextFault.{TextFault}
use Rattle.rnc_text.specs.declared.fault.TextFault.TheVariants as texts
use Rattle.rnc_text.specs.views.Answers.{GivesOk}

-- bytes that are not decoded have no such datatype
pub not_decoded : {X : Type 0} (view : X → List Character) (types : TypeSet) (bytes : List ℕ) (x : TextFault) (k offset : ℕ) → x ≡ texts.At k offset
    → ((cs : List Character) → IsDecoded bytes cs → GivesOk view (Err x) cs) → ¬ (HasBrokenDatatype types bytes)
not_decoded view types bytes texts.Memory k offset e only h = absurd cc
not_decoded view types bytes (texts.At j at) k offset e only (ts, number, are, broken) = only are.characters are.decoded

-- nor have characters that are not cut
pub not_cut : {X : Type 0} (view : X → List Token) (types : TypeSet) (bytes : List ℕ) (cs : List Character) (x : TextFault) (k offset : ℕ)
    → x ≡ texts.At k offset → IsDecoded bytes cs → ((cs ds : List Character) → IsDecoded bytes cs → IsDecoded bytes ds → cs ≡ ds)
    → ((ts : List Token) → HasTokens cs ts → GivesOk view (Err x) ts) → ¬ (HasBrokenDatatype types bytes)
not_cut view types bytes cs texts.Memory k offset e decoded one only h = absurd cc
not_cut view types bytes cs (texts.At j at) k offset e decoded one only (ts, number, are, broken) =
    only ts (subst (λ (cs : List Character). HasTokens cs ts) (one are.characters cs are.decoded decoded) are.are)

-- the tokens of the bytes are these, so the datatype is among them
pub among_tokens : {X : Type 0} (view : X → List Token) (types : TypeSet) (bytes : List ℕ) (cs : List Character) (v : X) → IsDecoded bytes cs
    → ((cs ds : List Character) → IsDecoded bytes cs → IsDecoded bytes ds → cs ≡ ds)
    → ((ts : List Token) → HasTokens cs ts → GivesOk view (Ok v) ts) → HasBrokenDatatype types bytes
    → (number : ℕ) × BreaksDatatypesAt types (lexemes (view v)) number
among_tokens view types bytes cs v decoded one only (ts, number, are, broken) =
    let same : view v ≡ ts = only ts (subst (λ (cs : List Character). HasTokens cs ts) (one are.characters cs are.decoded decoded) are.are) in
    (number, subst (λ (ts : List Token). BreaksDatatypesAt types (lexemes ts) number) (sym same) broken)

module _ (types : TypeSet) (ts : List Lexeme) where
  -- tokens without a tree have none
  pub not_parsed : (x : ParseFault) (f : ParseFault) → unless_memory x ≡ Some f
      → ((t : FileTree) → IsFileTree ts t → Gives unless_memory file_of (Err x) (Ok t)) → (number : ℕ) → ¬ (BreaksDatatypesAt types ts number)
  not_parsed x f e only number b = by (unless_memory x) e (only b.tree b.is) where
    by : (o : Option ParseFault) → o ≡ Some f → Refuses o (Ok b.tree) → ⊥
    by None e g = absurd cc
    by (Some y) e g = absurd cc

  -- tokens without a number have none
  pub not_numbered : IsBrokenNumber types ts None → (number : ℕ) → ¬ (BreaksDatatypesAt types ts number)
  not_numbered none number b = none b.is.file b.is.sentence number (b.at b.is.file b.is.sentence)

  pub numbered : (t : FileTree) → IsFileTree ts t → (number : ℕ) → IsBrokenNumber types ts (Some number) → BreaksDatatypesAt types ts number
  numbered t is number at = record { tree = t; is = is; at = at }

pub placed : (types : TypeSet) (bytes : List ℕ) (cs : List Character) (ts : List Token) (number : ℕ) (p : FilePlace) → IsDecoded bytes cs → HasTokens cs ts
    → BreaksDatatypesAt types (lexemes ts) number → IsPlaceOfToken bytes ts number p → BreaksDatatypeAt types bytes p
placed types bytes cs ts number p decoded has broken at = record {
  tokens = ts;
  number = number;
  are = record { characters = cs; decoded = decoded; are = has };
  broken = broken;
  place = at;
}
