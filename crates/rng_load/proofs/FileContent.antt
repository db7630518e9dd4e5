-- What each layer that reads a file reports about its bytes.
use Rattle.std.proofs.Common.{◌≡◌, ℕ, List, Ok, Err, IfSome, refl, sym, ap, subst, ◌∙◌, arith, inl, inr}
use Rattle.rnc_model.specs.declared.character.Character.{Character}
use Rattle.rnc_text.specs.declared.fault.TextFault.{TextFault}
use Rattle.rnc_text.specs.declared.fault.TextFault.TheVariants as texts
use Rattle.rnc_text.specs.views.Answers.{GivesOk, GivesFault, IfBroken}
use Rattle.rnc_model.specs.tokens.Cut.{Token, HasTokens, BreaksTokensAt, Lexeme, lexemes}
use Rattle.rnc_model.specs.characters.Decoding.{IsDecoded}
use Rattle.rnc_model.specs.characters.BrokenTexts.{BreaksTextAt}
use Rattle.rnc_grammar.specs.declared.fault.ParseFault.{ParseFault}
use Rattle.rnc_grammar.specs.declared.fault.ParseFault.TheVariants as parses
use Rattle.rnc_grammar.specs.declared.file_tree.FileTree as declared
use Rattle.rnc_model.specs.declarations.FileTree.{FileTree}
use Rattle.rnc_model.specs.grammar.Sentence.{BreaksGrammarAt, BreaksNesting, NestsWithin, nesting_limit}
use Rattle.rnc_model.specs.loading.SchemaFile.{BreaksDeclarations, IsFileTree, AreTokensOf, BreaksFileClause, not_utf8, bad_characters, bad_tokens, no_sentence}
use Rattle.rnc_model.specs.loading.SchemaFile.{too_deep, bad_declarations, IsSchemaFile}
use Rattle.rnc_grammar.specs.views.ParsingFaults.{IsFaultOf}
use Rattle.rng_model.specs.plain.Answers as answers
use Rattle.rnc_model.specs.grammar.Sentence as parsing_sentence
use Rattle.rnc_grammar.specs.views.ParsingFaults as parsing_faults
use Rattle.rnc_grammar.specs.views.View.{file_of}
use Rattle.rng_load.specs.views.FileFaults.{fault_of_text, fault_of_parse, verdict_of}
use Rattle.rnc_model.specs.loading.FileVerdicts.{FileVerdict, breaks, has_tree, ContentHasVerdict, ContentHasOnlyVerdict}

-- a tree is no broken clause
pub tree_or_clause : {t : FileTree} {k : ℕ} → has_tree t ≡ breaks k → ⊥
tree_or_clause e = cc

-- ---- characters

-- these are the only characters of the bytes, and the bytes break no clause about characters
pub record Decoded (bytes : List ℕ) (cs : List Character) : Type 0 where
  pub is : IsDecoded bytes cs
  pub one : (other : List Character) → IsDecoded bytes other → cs ≡ other
  pub sound : (clause offset : ℕ) → BreaksTextAt bytes clause offset → ⊥

-- bytes that break a clause about characters break only this one
text_breaks : (bytes : List ℕ) (k offset : ℕ) → BreaksTextAt bytes k offset → ((cs : List Character) → IsDecoded bytes cs → ⊥) →
    ((j at : ℕ) → BreaksTextAt bytes j at → (k ≡ j) × (offset ≡ at)) → ContentHasOnlyVerdict bytes (breaks k)
text_breaks bytes k offset b none one = record { is = found b; only = only } where
  found : BreaksTextAt bytes k offset → BreaksFileClause bytes k
  found (inl (e, b)) = not_utf8 offset b e
  found (inr (e, b)) = bad_characters offset b e

  clause : (j : ℕ) → BreaksFileClause bytes j → k ≡ j
  clause j (not_utf8 at b e) = (one 3 at (inl (refl, b))).0 ∙ sym e
  clause j (bad_characters at b e) = (one 4 at (inr (refl, b))).0 ∙ sym e
  clause j (bad_tokens cs at d b e) = absurd (none cs d)
  clause j (no_sentence ts at are b e) = absurd (none are.characters are.decoded)
  clause j (too_deep ts are b e) = absurd (none are.characters are.decoded)
  clause j (bad_declarations ts are b e) = absurd (none are.characters are.decoded)

  only : (other : FileVerdict) → ContentHasVerdict bytes other → breaks k ≡ other
  only (breaks j) h = ap breaks (clause j h)
  only (has_tree t) h = absurd (none h.are.characters h.are.decoded)

-- a fault of the text is a broken clause, unless memory ran out
pub text_fault : (bytes : List ℕ) (x : TextFault) → IfBroken (BreaksTextAt bytes) x →
    ((cs : List Character) → IsDecoded bytes cs → GivesOk {X = List Character} (λ t. t) (Err x) cs) →
    ((k offset : ℕ) → BreaksTextAt bytes k offset → GivesFault {X = List Character} (Err x) k offset) →
    IfSome (verdict_of (Err (fault_of_text x))) (ContentHasOnlyVerdict bytes)
text_fault bytes texts.Memory b none one = tt
text_fault bytes (texts.At k offset) b none one = text_breaks bytes k offset b none one

-- a text that is decoded
pub decoded : (bytes : List ℕ) (cs : List Character) → IsDecoded bytes cs →
    ((other : List Character) → IsDecoded bytes other → GivesOk (λ t. t) (Ok cs) other) →
    ((k offset : ℕ) → BreaksTextAt bytes k offset → GivesFault {X = List Character} (Ok cs) k offset) → Decoded bytes cs
decoded bytes cs is only broken = record { is = is; one = only; sound = broken }

-- ---- tokens

-- these are the only tokens of the characters, and the characters break no clause about tokens
pub record Tokenized (cs : List Character) (ts : List Token) : Type 0 where
  pub is : HasTokens cs ts
  pub one : (other : List Token) → HasTokens cs other → ts ≡ other
  pub sound : (offset : ℕ) → BreaksTokensAt cs offset → ⊥

-- characters with no piece at an offset break only this clause
tokens_break : (bytes : List ℕ) (cs : List Character) (k offset : ℕ) → Decoded bytes cs → k ≡ 5 → BreaksTokensAt cs offset →
    ((ts : List Token) → HasTokens cs ts → ⊥) → ContentHasOnlyVerdict bytes (breaks k)
tokens_break bytes cs k offset d five b none = record { is = bad_tokens cs offset d.is b five; only = only } where
  no_other : (other : List Character) (ts : List Token) → IsDecoded bytes other → HasTokens other ts → ⊥
  no_other other ts is has = none ts (subst (λ cs. HasTokens cs ts) (sym (d.one other is)) has)

  clause : (j : ℕ) → BreaksFileClause bytes j → k ≡ j
  clause j (not_utf8 at b e) = absurd (d.sound 3 at (inl (refl, b)))
  clause j (bad_characters at b e) = absurd (d.sound 4 at (inr (refl, b)))
  clause j (bad_tokens cs at d b e) = five ∙ sym e
  clause j (no_sentence ts at are b e) = absurd (no_other are.characters ts are.decoded are.are)
  clause j (too_deep ts are b e) = absurd (no_other are.characters ts are.decoded are.are)
  clause j (bad_declarations ts are b e) = absurd (no_other are.characters ts are.decoded are.are)

  only : (other : FileVerdict) → ContentHasVerdict bytes other → breaks k ≡ other
  only (breaks j) h = ap breaks (clause j h)
  only (has_tree t) h = absurd (no_other h.are.characters h.tokens h.are.decoded h.are.are)

-- a fault of the tokens is a broken clause, unless memory ran out
pub tokens_fault : {X : Type 0} (view : X → List Token) (bytes : List ℕ) (cs : List Character) (x : TextFault) → Decoded bytes cs →
    IfBroken (λ k offset. (k ≡ 5) × BreaksTokensAt cs offset) x → ((ts : List Token) → HasTokens cs ts → GivesOk view (Err x) ts) →
    IfSome (verdict_of (Err (fault_of_text x))) (ContentHasOnlyVerdict bytes)
tokens_fault view bytes cs texts.Memory d b none = tt
tokens_fault view bytes cs (texts.At k offset) d b none = tokens_break bytes cs k offset d b.0 b.1 none

-- tokens that are cut
pub tokenized : {X : Type 0} (view : X → List Token) (cs : List Character) (x : X) → HasTokens cs (view x) →
    ((ts : List Token) → HasTokens cs ts → GivesOk view (Ok x) ts) → ((offset : ℕ) → BreaksTokensAt cs offset → GivesFault {X = X} (Ok x) 5 offset) →
    Tokenized cs (view x)
tokenized view cs x is only broken = record { is = is; one = only; sound = broken }

-- ---- the grammar

-- a clause of the grammar that tokens break
pub data BreaksSentence (ts : List Lexeme) (k : ℕ) : Type 0 where
  grammar : (number : ℕ) → BreaksGrammarAt ts number → k ≡ 6 → BreaksSentence ts k
  nesting : BreaksNesting ts → k ≡ 7 → BreaksSentence ts k
  declarations : BreaksDeclarations ts → k ≡ 8 → BreaksSentence ts k

-- these are the only tokens of the bytes, and the bytes break no clause before those of the grammar
pub record Lexed (bytes : List ℕ) (ts : List Token) : Type 0 where
  pub is : AreTokensOf bytes ts
  pub one : (other : List Token) → AreTokensOf bytes other → ts ≡ other
  pub sound : (k : ℕ) → BreaksFileClause bytes k → BreaksSentence (lexemes ts) k

pub lexed : (bytes : List ℕ) (cs : List Character) (ts : List Token) → Decoded bytes cs → Tokenized cs ts → Lexed bytes ts
lexed bytes cs ts d t = record { is = record { characters = cs; decoded = d.is; are = t.is }; one = one; sound = sound } where
  one : (other : List Token) → AreTokensOf bytes other → ts ≡ other
  one other a = t.one other (subst (λ cs. HasTokens cs other) (sym (d.one a.characters a.decoded)) a.are)

  sound : (k : ℕ) → BreaksFileClause bytes k → BreaksSentence (lexemes ts) k
  sound k (not_utf8 at b e) = absurd (d.sound 3 at (inl (refl, b)))
  sound k (bad_characters at b e) = absurd (d.sound 4 at (inr (refl, b)))
  sound k (bad_tokens other at is b e) = absurd (t.sound at (subst (λ cs. BreaksTokensAt cs at) (sym (d.one other is)) b))
  sound k (no_sentence us at are b e) = grammar at (subst (λ ts. BreaksGrammarAt (lexemes ts) at) (sym (one us are)) b) e
  sound k (too_deep us are b e) = nesting (subst (λ ts. BreaksNesting (lexemes ts)) (sym (one us are)) b) e
  sound k (bad_declarations us are b e) = declarations (subst (λ ts. BreaksDeclarations (lexemes ts)) (sym (one us are)) b) e

-- tokens do not nest both within the limit and beyond it
not_both : (ts : List Lexeme) → NestsWithin nesting_limit ts → BreaksNesting ts → ⊥
not_both ts within (k, beyond) = let e = within k in omega arith

-- tokens that are stuck are no sentence
not_stuck : (ts : List Lexeme) (number : ℕ) → BreaksGrammarAt ts number → parsing_sentence.IsSentence ts → ⊥
not_stuck ts number b is = b.stuck.stuck ts ((λ within. refl), (λ beyond. refl)) is

-- the tree of a file is one of its tokens
tree_there : (bytes : List ℕ) (ts : List Token) (t : FileTree) → Lexed bytes ts → IsSchemaFile bytes t → IsFileTree (lexemes ts) t
tree_there bytes ts t l f = subst (λ ts. IsFileTree (lexemes ts) t) (sym (l.one f.tokens f.are)) f.tree

-- a clause of the grammar that is the only broken one
sentence_breaks : (bytes : List ℕ) (ts : List Token) (k : ℕ) → Lexed bytes ts → BreaksFileClause bytes k → ((j : ℕ) → BreaksSentence (lexemes ts) j → k ≡ j) →
    ((t : FileTree) → IsFileTree (lexemes ts) t → ⊥) → ContentHasOnlyVerdict bytes (breaks k)
sentence_breaks bytes ts k l b one none = record { is = b; only = only } where
  only : (other : FileVerdict) → ContentHasVerdict bytes other → breaks k ≡ other
  only (breaks j) h = ap breaks (one j (l.sound j h))
  only (has_tree t) h = absurd (none t (tree_there bytes ts t l h))

-- no sentence
grammar_only : (ts : List Lexeme) (k number : ℕ) → k ≡ 6 → BreaksGrammarAt ts number → (j : ℕ) → BreaksSentence ts j → k ≡ j
grammar_only ts k number six b j (grammar at c e) = six ∙ sym e
grammar_only ts k number six b j (nesting n e) = absurd (not_both ts b.nesting n)
grammar_only ts k number six b j (declarations d e) = absurd (not_stuck ts number b (d.file, d.sentence))

-- too many open brackets
nesting_only : (ts : List Lexeme) (k : ℕ) → k ≡ 7 → BreaksNesting ts → (j : ℕ) → BreaksSentence ts j → k ≡ j
nesting_only ts k seven b j (grammar at c e) = absurd (not_both ts c.nesting b)
nesting_only ts k seven b j (nesting n e) = seven ∙ sym e
nesting_only ts k seven b j (declarations d e) = absurd (not_both ts d.nesting b)

-- declarations
declarations_only : (ts : List Lexeme) (k : ℕ) → k ≡ 8 → BreaksDeclarations ts → (j : ℕ) → BreaksSentence ts j → k ≡ j
declarations_only ts k eight b j (grammar at c e) = absurd (not_stuck ts at c (b.file, b.sentence))
declarations_only ts k eight b j (nesting n e) = absurd (not_both ts b.nesting n)
declarations_only ts k eight b j (declarations d e) = eight ∙ sym e

-- no tree is returned if a fault is
no_tree_at : (k number : ℕ) (t : FileTree) → answers.Gives parsing_faults.unless_memory file_of (Err (parses.At k number)) (Ok t) → ⊥
no_tree_at k number t g = absurd (cc)

no_tree_clause : (k : ℕ) (t : FileTree) → answers.Gives parsing_faults.unless_memory file_of (Err (parses.Clause k)) (Ok t) → ⊥
no_tree_clause k t g = absurd (cc)

-- a fault of the grammar is a broken clause, unless memory ran out
pub parse_fault : (bytes : List ℕ) (ts : List Token) (x : ParseFault) → Lexed bytes ts → IsFaultOf (lexemes ts) x →
    ((t : FileTree) → IsFileTree (lexemes ts) t → answers.Gives parsing_faults.unless_memory file_of (Err x) (Ok t))
    → IfSome (verdict_of (Err (fault_of_parse x))) (ContentHasOnlyVerdict bytes)
parse_fault bytes ts parses.Memory l b none = tt
parse_fault bytes ts (parses.At k number) l b none =
    sentence_breaks bytes ts k l (no_sentence ts number l.is b.1 b.0) (grammar_only (lexemes ts) k number b.0 b.1) (λ t is. no_tree_at k number t (none t is))
parse_fault bytes ts (parses.Clause k) l (inl (e, b)) none =
    sentence_breaks bytes ts k l (too_deep ts l.is b e) (nesting_only (lexemes ts) k e b) (λ t is. no_tree_clause k t (none t is))
parse_fault bytes ts (parses.Clause k) l (inr (e, b)) none =
    sentence_breaks bytes ts k l (bad_declarations ts l.is b e) (declarations_only (lexemes ts) k e b) (λ t is. no_tree_clause k t (none t is))

-- a tree that is read is the only verdict of the file
pub parsed : (bytes : List ℕ) (ts : List Token) (x : declared.FileTree) → Lexed bytes ts → IsFileTree (lexemes ts) (file_of x) →
    ((t : FileTree) → IsFileTree (lexemes ts) t → answers.Gives parsing_faults.unless_memory file_of (Ok x) (Ok t))
    → (BreaksDeclarations (lexemes ts) → answers.Gives parsing_faults.unless_memory file_of (Ok x) (Err (parses.Clause 8))) →
    ContentHasOnlyVerdict bytes (has_tree (file_of x))
parsed bytes ts x l is one none = record { is = record { tokens = ts; are = l.is; tree = is }; only = only } where
  no_clause : (j : ℕ) → BreaksSentence (lexemes ts) j → ⊥
  no_clause j (grammar at b e) = not_stuck (lexemes ts) at b (is.file, is.sentence)
  no_clause j (nesting b e) = not_both (lexemes ts) is.nesting b
  no_clause j (declarations b e) = let d = none b in absurd (cc)

  same : (t : FileTree) → IsFileTree (lexemes ts) t → file_of x ≡ t
  same t h = let e = one t h in cc

  only : (other : FileVerdict) → ContentHasVerdict bytes other → has_tree (file_of x) ≡ other
  only (breaks j) h = absurd (no_clause j (l.sound j h))
  only (has_tree t) h = ap has_tree (same t (tree_there bytes ts t l h))
