-- What is read from a text is the expression that it writes.
use Rattle.std.proofs.Common.{◌≡◌, ◌∙◌, ℕ, List, Some, None, sym, ap}
use Rattle.rng_model.specs.regexes.Expressions.{Regex}
use Rattle.rng_model.specs.regexes.Symbols.{Symbol, AreSymbols}
use Rattle.rng_model.specs.regexes.ExpressionGrammar.{IsRegex}
use Rattle.rng_model.specs.regexes.plain.Spelling.{HasNoSymbols}
use Rattle.rng_model.specs.regexes.plain.Machine.{run, start}
use Rattle.xsd_regex.proofs.Spelled.{symbols_same}
use Rattle.xsd_regex.proofs.CompleteExpressions.{is_complete}
use Rattle.xsd_regex.proofs.SoundExpressions.{is_sound}

-- what a text is read as, if it is read
pub read_by : (text : List ℕ) (us : List Symbol) (r : Regex) → AreSymbols text us → IsRegex text r → run start us ≡ Some r
read_by text us r are is = ap (run start) (symbols_same text us is.symbols are is.written) ∙ is_complete is.symbols r is.read

pub read_is : (text : List ℕ) (us : List Symbol) (r : Regex) → AreSymbols text us → Some r ≡ run start us → IsRegex text r
read_is text us r are e = record { symbols = us; written = are; read = is_sound us r (sym e) }

pub read_none : (text : List ℕ) (us : List Symbol) → AreSymbols text us → None ≡ run start us → (r : Regex) → ¬ (IsRegex text r)
read_none text us are e r is = let both : None ≡ Some r = e ∙ read_by text us r are is in cc

pub unread_none : (text : List ℕ) → HasNoSymbols text → (r : Regex) → ¬ (IsRegex text r)
unread_none text none r is = none is.symbols is.written

-- a text is one expression at most
pub one_expression : (text : List ℕ) (r q : Regex) → IsRegex text r → IsRegex text q → r ≡ q
one_expression text r q is same =
    let both : Some r ≡ Some q = sym (is_complete is.symbols r is.read) ∙ read_by text is.symbols q is.written same in cc
