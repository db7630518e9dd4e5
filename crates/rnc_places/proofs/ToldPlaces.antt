-- The places that are returned are those of the clauses.
use Rattle.std.proofs.Common.{◌≡◌, ◌⊎◌, ℕ, ◌-◌, List, [], ◌++◌, Some, None, Ok, Err, IfSome, take, inl, inr, refl, sym, subst, ◌∙◌}
use Rattle.std.proofs.lemmas.Option.{none-some}
use Rattle.std.specs.List.{slice_get}
use Rattle.rnc_grammar.specs.declared.fault.ParseFault.{ParseFault}
use Rattle.rnc_grammar.specs.declared.fault.ParseFault.TheVariants as faults
use Rattle.rnc_grammar.specs.views.ParsingFaults.{IsFaultOf, unless_memory}
use Rattle.rnc_grammar.specs.views.View.{file_of}
use Rattle.rnc_model.specs.declarations.FileTree.{FileTree}
use Rattle.rnc_model.specs.loading.SchemaFile.{IsFileTree, AreTokensOf, BreaksFileClause}
use Rattle.rnc_model.specs.characters.Decoding.{byte_length, BreaksCharactersAt, BreaksUtf8At, Decodes, IsDecoded, IsSpelling}
use Rattle.rnc_model.specs.characters.BrokenTexts.{BreaksTextAt}
use Rattle.rnc_model.specs.characters.FilePlaces.{IsPlaceBehind, IsPlaceBetween}
use Rattle.rnc_model.specs.declared.character.Character.{Character}
use Rattle.rnc_model.specs.declared.file_place.FilePlace.{FilePlace}
use Rattle.rnc_model.specs.loading.FaultPlaces.{BreaksClauseAt, IsPlaceOfToken}
use Rattle.rnc_model.specs.loading.FaultPlaces as places
use Rattle.rnc_model.specs.loading.FileVerdicts.{ContentHasOnlyVerdict, breaks, has_tree}
use Rattle.rnc_model.specs.tokens.Cut.{BreaksTokensAt, HasTokens, Token, lexemes}
use Rattle.rnc_places.specs.declared.fault.FileFault.{FileFault}
use Rattle.rnc_places.specs.declared.fault.FileFault.TheVariants as files
use Rattle.rnc_places.specs.views.Mentions.{BreaksOnlyAt, IsFaultOfFile}
use Rattle.rnc_places.specs.views.Told.{BreaksAtToken, IsNumberOf, clause_of, unexpected, too_deep, unruly}
use Rattle.rnc_text.specs.declared.fault.TextFault.{TextFault}
use Rattle.rnc_text.specs.declared.fault.TextFault.TheVariants as texts
use Rattle.rnc_text.specs.views.Answers.{GivesFault, GivesOk, IfBroken}
use Rattle.rng_load.proofs.FileContent.{Decoded, Lexed, parse_fault, text_fault, tokens_fault, tree_or_clause}
use Rattle.rng_load.specs.views.FileFaults.{fault_of_parse, verdict_of}
use Rattle.rng_model.specs.plain.Answers.{Gives}
use Rattle.rnc_places.proofs.FilePieces.{decodes_front, stuck_front, token_front}

-- characters that are decoded, and those of a front
behind_front : (bytes : List ℕ) (cs front rest : List Character) (offset : ℕ) (p : FilePlace) → IsDecoded bytes cs → cs ≡ front ++ rest
    → byte_length front ≡ offset
    → ((front : List Character) (numbers after : List ℕ) → IsSpelling bytes numbers → Decodes numbers front after → byte_length front ≡ offset
    → IsPlaceBehind bytes front p)
    → IsPlaceBehind bytes front p
behind_front bytes cs front rest offset p d is size told =
    let m = decodes_front d.decoded front rest is in
    told front d.numbers m.0 d.spelling m.1 size

-- the place of a fault of the bytes or characters
pub place_of_text : (bytes : List ℕ) (k offset : ℕ) (p : FilePlace) → BreaksTextAt bytes k offset
    → (BreaksUtf8At bytes offset → (front : List ℕ) × IsSpelling (take offset bytes) front × IsPlaceBetween front [] p)
    → (BreaksCharactersAt bytes offset → (front : List Character) × IsPlaceBehind bytes front p)
    → (BreaksUtf8At bytes offset ⊎ BreaksCharactersAt bytes offset → p.offset ≡ offset) → BreaksClauseAt bytes k p
place_of_text bytes k offset p (inl (e, b)) utf8 characters at =
    let f = utf8 b in
    let same = sym (at (inl b)) in
    places.not_utf8 f.0 (subst (BreaksUtf8At bytes) same b) (subst (λ n. IsSpelling (take n bytes) f.0) same f.1) f.2 e
place_of_text bytes k offset p (inr (e, b)) utf8 characters at =
    let f = characters b in
    places.bad_characters f.0 (subst (BreaksCharactersAt bytes) (sym (at (inr b))) b) f.1 e

-- a place at which nothing begins
pub place_of_cut : (bytes : List ℕ) (cs : List Character) (k offset : ℕ) (p : FilePlace) → IsDecoded bytes cs → (k ≡ 5) × BreaksTokensAt cs offset
    → ((front : List Character) (numbers after : List ℕ) → IsSpelling bytes numbers → Decodes numbers front after → byte_length front ≡ offset
    → IsPlaceBehind bytes front p)
    → BreaksClauseAt bytes k p
place_of_cut bytes cs k offset p d b told =
    let f = stuck_front cs offset b.1 in
    places.bad_tokens cs f.front d (subst (BreaksTokensAt cs) (sym f.size_is) b.1) (behind_front bytes cs f.front f.rest offset p d f.is f.size_is told) b.0

-- the place of a token
pub place_of_some : (bytes : List ℕ) (cs : List Character) (ts : List Token) (number : ℕ) (t : Token) (p : FilePlace) → IsDecoded bytes cs → HasTokens cs ts
    → slice_get ts (number - 1) ≡ Some t
    → ((front : List Character) (numbers after : List ℕ) → IsSpelling bytes numbers → Decodes numbers front after → byte_length front ≡ t.starts
    → IsPlaceBehind bytes front p)
    → IsPlaceOfToken bytes ts number p
place_of_some bytes cs ts number t p d h is told =
    let f = token_front cs ts (number - 1) t h is in
    places.of_token f.front is f.size_is (behind_front bytes cs f.front f.rest t.starts p d f.is f.size_is told)

-- the end of the file
pub place_of_none : (bytes : List ℕ) (cs : List Character) (ts : List Token) (number : ℕ) (p : FilePlace) → IsDecoded bytes cs
    → slice_get ts (number - 1) ≡ None
    → ((front : List Character) (numbers after : List ℕ) → IsSpelling bytes numbers → Decodes numbers front after → byte_length front ≡ byte_length cs
    → IsPlaceBehind bytes front p)
    → IsPlaceOfToken bytes ts number p
place_of_none bytes cs ts number p d is told = places.of_end cs is d (told cs d.numbers [] d.spelling d.decoded refl)

-- the place of a fault of the tokens
pub place_of_fault : (bytes : List ℕ) (ts : List Token) (k number : ℕ) (p : FilePlace) → AreTokensOf bytes ts → BreaksAtToken (lexemes ts) k number
    → IsPlaceOfToken bytes ts number p → BreaksClauseAt bytes k p
place_of_fault bytes ts k number p are (unexpected b e) at = places.no_sentence ts number are b at e
place_of_fault bytes ts k number p are (too_deep b e) at = places.too_deep ts number are b at e
place_of_fault bytes ts k number p are (unruly b e) at = places.bad_declarations ts number are b at e

-- ---- what is returned

pub told_of_text : (bytes : List ℕ) (x : TextFault) (k offset : ℕ) (p : FilePlace) (o : ℕ) → offset ≡ o → x ≡ texts.At k offset → IfBroken (BreaksTextAt bytes) x
    → ((cs : List Character) → IsDecoded bytes cs → GivesOk {X = List Character} (λ t. t) (Err x) cs)
    → ((k offset : ℕ) → BreaksTextAt bytes k offset → GivesFault {X = List Character} (Err x) k offset)
    → (BreaksUtf8At bytes o → (front : List ℕ) × IsSpelling (take o bytes) front × IsPlaceBetween front [] p)
    → (BreaksCharactersAt bytes o → (front : List Character) × IsPlaceBehind bytes front p)
    → (BreaksUtf8At bytes o ⊎ BreaksCharactersAt bytes o → p.offset ≡ o) → BreaksOnlyAt bytes k p
told_of_text bytes texts.Memory k offset p o o-is e fault only broken utf8 characters at = absurd (cc)
told_of_text bytes (texts.At j at) k offset p o o-is e fault only broken utf8 characters same =
    let g : at ≡ o = (let h : at ≡ offset = cc in h ∙ o-is) in
    let f : BreaksTextAt bytes k at = (let h : j ≡ k = cc in subst (λ n. BreaksTextAt bytes n at) h fault) in
    let b : BreaksTextAt bytes k o = subst (BreaksTextAt bytes k) g f in
    let k-is : j ≡ k = cc in
    (place_of_text bytes k o p b utf8 characters same, subst (λ n. ContentHasOnlyVerdict bytes (breaks n)) k-is (text_fault bytes (texts.At j at) fault only broken))

pub told_of_cut : {X : Type 0} (view : X → List Token) (bytes : List ℕ) (cs : List Character) (x : TextFault) (k offset : ℕ) (p : FilePlace)
    (o : ℕ) → offset ≡ o → x ≡ texts.At k offset → Decoded bytes cs → IfBroken (λ k offset. (k ≡ 5) × BreaksTokensAt cs offset) x
    → ((ts : List Token) → HasTokens cs ts → GivesOk view (Err x) ts)
    → ((front : List Character) (numbers after : List ℕ) → IsSpelling bytes numbers → Decodes numbers front after → byte_length front ≡ o
    → IsPlaceBehind bytes front p)
    → BreaksOnlyAt bytes k p
told_of_cut view bytes cs texts.Memory k offset p o o-is e d fault only told = absurd (cc)
told_of_cut view bytes cs (texts.At j at) k offset p o o-is e d fault only told =
    let k-is : j ≡ k = cc in
    let g : at ≡ o = (let h : at ≡ offset = cc in h ∙ o-is) in
    let b : (k ≡ 5) × BreaksTokensAt cs o = (sym k-is ∙ fault.0, subst (BreaksTokensAt cs) g fault.1) in
    (place_of_cut bytes cs k o p d.is b told, subst (λ n. ContentHasOnlyVerdict bytes (breaks n)) k-is (tokens_fault view bytes cs (texts.At j at) d fault only))

-- the verdict of a fault is its clause
verdict_at : (bytes : List ℕ) (x : ParseFault) (k : ℕ) → clause_of x ≡ Some k → IfSome (verdict_of (Err (fault_of_parse x))) (ContentHasOnlyVerdict bytes)
    → ContentHasOnlyVerdict bytes (breaks k)
verdict_at bytes faults.Memory k e v = absurd (none-some _ e)
verdict_at bytes (faults.At c number) k e v = let same : c ≡ k = cc in subst (λ n. ContentHasOnlyVerdict bytes (breaks n)) same v
verdict_at bytes (faults.Clause c) k e v = let same : c ≡ k = cc in subst (λ n. ContentHasOnlyVerdict bytes (breaks n)) same v

pub told_of_tokens : (bytes : List ℕ) (ts : List Token) (x : ParseFault) (k number : ℕ) (p : FilePlace) → Lexed bytes ts → IsFaultOf (lexemes ts) x
    → ((t : FileTree) → IsFileTree (lexemes ts) t → Gives unless_memory file_of (Err x) (Ok t)) → IsNumberOf (lexemes ts) x (k, number)
    → IsPlaceOfToken bytes ts number p → BreaksOnlyAt bytes k p
told_of_tokens bytes ts x k number p l fault only n at =
    (place_of_fault bytes ts k number p l.is n.1 at, verdict_at bytes x k n.0 (parse_fault bytes ts x l fault only))

-- ---- a clause that is asked for

pub is_asked : (bytes : List ℕ) (x : FileFault) (k j : ℕ) (p : FilePlace) → x ≡ files.Broken j p → j ≡ k → IsFaultOfFile bytes x → BreaksClauseAt bytes k p
is_asked bytes files.Memory k j p e f told = absurd (cc)
is_asked bytes (files.Broken i q) k j p e f told =
    let same : i ≡ k = cc in
    let there : q ≡ p = cc in
    subst (λ n. BreaksClauseAt bytes n p) same (subst (BreaksClauseAt bytes i) there told.0)

pub is_another : (bytes : List ℕ) (x : FileFault) (k j : ℕ) (p : FilePlace) → x ≡ files.Broken j p → (j ≡ k → ⊥) → IsFaultOfFile bytes x
    → BreaksFileClause bytes k → ⊥
is_another bytes files.Memory k j p e f told broken = cc
is_another bytes (files.Broken i q) k j p e f told broken =
    let same : breaks i ≡ breaks k = told.1.only (breaks k) broken in
    f (let n : i ≡ k = cc in let m : i ≡ j = cc in sym m ∙ n)

pub is_none : (bytes : List ℕ) (t : FileTree) (k : ℕ) → ContentHasOnlyVerdict bytes (has_tree t) → BreaksFileClause bytes k → ⊥
is_none bytes t k only broken = tree_or_clause (only.only (breaks k) broken)
