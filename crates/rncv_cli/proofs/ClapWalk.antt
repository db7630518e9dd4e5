-- Clap's walk over the words, with the form of a command line.
use Rattle.std.proofs.Common.{◌≡◌, ◌∙◌, ◌<◌, ◌≤◌, ℕ, Bool, true, false, List, [], ◌∷◌, ◌++◌, length, Some, None, codes}
use Rattle.std.proofs.Common.{ap, ap₂, refl, sym, subst, arith, append-nil, append_assoc, le-ltb, ne_eqb}
use Rattle.std.specs.Prelude.{◌==◌, nat_lt}
use Rattle.std.specs.List.{AllByRecursion, fold}
use Rattle.std.specs.Str.{IsUtf8}
use Rattle.clap.specs.Lexer.{usize_max}
use Rattle.clap.specs.Kinds.{Kinds, or_else, range_kinds, values_kinds}
use Rattle.clap.specs.Walk.{Held, Row, Step, Waiting, Walk, after_step, all_of, finished, first_of, idle, nothing_held, positional, settled, value}
use Rattle.clap.specs.Walk.{walked, word_met}
use Rattle.clap.specs.Simple.{Shape, built, matches_of}
use Rattle.clap.specs.Faults.{check_fault, defaults_fault, fault_of, flags_fault, settle_fault, step_fault, turn_fault, walk_fault, word_fault}
use Rattle.clap.specs.declared.builder.value_parser.Reading.TheVariants.{AsWritten}
use Rattle.clap.specs.declared.builder.value_parser.ValueParser.TheVariants.{String}
use Rattle.clap.specs.declared.error.kind.ErrorKind.{ErrorKind}
use Rattle.clap.specs.declared.error.kind.ErrorKind.TheVariants.{MissingRequiredArgument, UnknownArgument}
use Rattle.clap.specs.declared.parser.matches.ValueSource.TheVariants.{CommandLine}
use Rattle.clap.proofs.FaultLemmas.{leaf_fault}
use Rattle.rncv_cli.specs.plain.CommandLine.{Text, WithoutDashes, none, dashes, plain}
use Rattle.rncv_cli.specs.plain.CommandLineForm.{form}
use Rattle.rncv_cli.proofs.WordKinds.{HasFirst, IsLong, IsPlain, IsShort, Kind, is_dashes, is_long, is_plain, is_short, kind_of, plain_of, short_has_first}

-- the form as clap builds it
abbrev shape : Shape
shape = (built form).top

-- the arguments that the walk has met
data Place : Type 0 where
  start : Place
  named : (command : Text) → Place
  filed : (command first : Text) (more : List Text) → Place

abbrev next_at : Place → Text → Place
next_at start word = named word
next_at (named command) word = filed command word []
next_at (filed command first more) word = filed command first (more ++ word ∷ [])

abbrev row : Text → List Text → Row
row id values = record { id = id; values = values; count = None; source = Some CommandLine; reading = AsWritten }

-- what the walk holds there: the last argument waits for more values
abbrev held_at : Place → Held
held_at start = nothing_held
held_at (named command) = record { rows = []; pending = Some (codes "command", command ∷ []); skip = 0 }
held_at (filed command first more) = record { rows = row (codes "command") (command ∷ []) ∷ []; pending = Some (codes "files", first ∷ more); skip = 0 }

abbrev waiting_at : Place → Waiting
waiting_at start = idle
waiting_at (named command) = idle
waiting_at (filed command first more) = positional

abbrev position_at : Place → ℕ
position_at start = 1
position_at (named command) = 2
position_at (filed command first more) = 2

-- the walk there, either after the first `--` or not
abbrev walk_at : Bool → Place → Walk
walk_at behind p = record { held = held_at p; waiting = waiting_at p; position = position_at p; is_trailing = behind; stopped = None }

-- ---- one word

-- the word has no fault, and takes the walk from w to v
record Moves (w : Walk) (word : Text) (v : Walk) : Type 0 where
  fits : turn_fault shape [] w word ≡ []
  there : walked shape.rules [] w word ≡ v

value_fits : (p : Place) → step_fault shape (position_at p) (held_at p) value ≡ []
value_fits start = refl
value_fits (named command) = refl
value_fits (filed command first more) = refl

after_value : (behind : Bool) (p : Place) (word : Text) → after_step shape.rules word (walk_at behind p) (held_at p) value ≡ walk_at behind (next_at p word)
after_value true start word = refl
after_value true (named command) word = refl
after_value true (filed command first more) word = refl
after_value false start word = refl
after_value false (named command) word = refl
after_value false (filed command first more) word = refl

-- a word that is a value is the next argument
value_moves : (behind : Bool) (p : Place) (word : Text) → word_fault shape [] behind (waiting_at p) word (held_at p) ≡ []
    → word_met shape.rules [] behind (waiting_at p) (position_at p) word (held_at p) ≡ (held_at p, value)
    → Moves (walk_at behind p) word (walk_at behind (next_at p word))
unfolding walked
value_moves behind p word fits met = record {
  fits = ap₂ (λ (k : Kinds) (m : Held × Step). or_else k (step_fault shape (position_at p) m.0 m.1)) fits met ∙ value_fits p;
  there = ap (λ (m : Held × Step). after_step shape.rules word (walk_at behind p) m.0 m.1) met ∙ after_value behind p word;
}

-- so is any word after the first `--`, and before it each word that is neither `--` nor an option
behind_moves : (p : Place) (word : Text) → Moves (walk_at true p) word (walk_at true (next_at p word))
behind_moves p word = value_moves true p word refl refl

plain_moves : (p : Place) (word : Text) → IsPlain word → Moves (walk_at false p) word (walk_at false (next_at p word))
plain_moves start word seen = value_moves false start word (rw (seen.no_dashes, seen.no_long, seen.no_short)) (rw (seen.no_dashes, seen.no_long, seen.no_short))
plain_moves (named command) word seen =
    value_moves false (named command) word (rw (seen.no_dashes, seen.no_long, seen.no_short)) (rw (seen.no_dashes, seen.no_long, seen.no_short))
plain_moves (filed command first more) word seen =
    value_moves false (filed command first more) word (rw (seen.no_dashes, seen.no_long, seen.no_short)) (rw (seen.no_dashes, seen.no_long, seen.no_short))

dashes_move : (p : Place) → Moves (walk_at false p) (codes "--") (walk_at true p)
unfolding walked
dashes_move start = record { fits = refl; there = refl }
dashes_move (named command) = record { fits = refl; there = refl }
dashes_move (filed command first more) = record { fits = refl; there = refl }

-- an option is unknown
abbrev Unknown : Place → Text → Type 0
Unknown p word = word_fault shape [] false (waiting_at p) word (held_at p) ≡ UnknownArgument ∷ []

long_fails : (p : Place) (word : Text) → IsLong word → Unknown p word
long_fails start word long = rw (long.no_dashes, long.is)
long_fails (named command) word long = rw (long.no_dashes, long.is)
long_fails (filed command first more) word long = rw (long.no_dashes, long.is)

short_fails : (p : Place) (word : Text) (short : IsShort word) → HasFirst (short.first ∷ short.rest) → Unknown p word
unfolding flags_fault
short_fails start word short text = rw (short.no_dashes, short.no_long, short.is, text.is)
short_fails (named command) word short text = rw (short.no_dashes, short.no_long, short.is, text.is)
short_fails (filed command first more) word short text = rw (short.no_dashes, short.no_long, short.is, text.is)

some_fail : (kind : ErrorKind) (kinds : Kinds) → kind ∷ kinds ≡ [] → ⊥
some_fail kind kinds e = cc

unknown_fails : (p : Place) (word : Text) (rest : List Text) → Unknown p word → walk_fault shape [] (walk_at false p) (word ∷ rest) ≡ [] → ⊥
unfolding walk_fault
unknown_fails p word rest unknown fits =
    let met : Held × Step = word_met shape.rules [] false (waiting_at p) (position_at p) word (held_at p) in
    let later : Kinds = walk_fault shape [] (walked shape.rules [] (walk_at false p) word) rest in
    some_fail UnknownArgument []
    (sym (ap (λ (k : Kinds). or_else (or_else k (step_fault shape (position_at p) met.0 met.1)) later) unknown) ∙ fits)

-- ---- the words

-- no word has a fault, and the walk over them ends at a place
record Reaches (w : Walk) (words : List Text) (p : Place) : Type 0 where
  fits : walk_fault shape [] w words ≡ []
  held : (fold (walked shape.rules []) w words).held ≡ held_at p

reaches_here : (behind : Bool) (p : Place) → Reaches (walk_at behind p) [] p
unfolding walk_fault
reaches_here behind p = record { fits = refl; held = refl }

first_reaches : {w v : Walk} {word : Text} {rest : List Text} {p : Place} → Moves w word v → Reaches v rest p → Reaches w (word ∷ rest) p
unfolding walk_fault
first_reaches {w} {v} {word} {rest} first more = record {
  fits = ap₂ (λ (k : Kinds) (v : Walk). or_else k (walk_fault shape [] v rest)) first.fits first.there ∙ more.fits;
  held = ap (λ (v : Walk). (fold (walked shape.rules []) v rest).held) first.there ∙ more.held;
}

reaches_behind : (words : List Text) (p : Place) → Reaches (walk_at true p) words (fold next_at p words)
reaches_behind [] p = reaches_here true p
reaches_behind (word ∷ rest) p = first_reaches (behind_moves p word) (reaches_behind rest (next_at p word))

reaches : {words arguments : List Text} → WithoutDashes words arguments → (p : Place) → Reaches (walk_at false p) words (fold next_at p arguments)
reaches none p = reaches_here false p
reaches (dashes {word} {rest} is) p =
    subst (λ (w : Text). Reaches (walk_at false p) (w ∷ rest) (fold next_at p rest)) (sym is) (first_reaches (dashes_move p) (reaches_behind rest p))
reaches (plain {word} {rest} {arguments} no_option parts) p =
    first_reaches (plain_moves p word (plain_of word no_option)) (reaches parts (next_at p word))

-- words without a fault have arguments
record HasArguments (words : List Text) : Type 0 where
  arguments : List Text
  parts : WithoutDashes words arguments

with_word : (word : Text) (rest : List Text) (p : Place) → Kind word → IsUtf8 word → walk_fault shape [] (walk_at false p) (word ∷ rest) ≡ []
    → ((q : Place) → walk_fault shape [] (walk_at false q) rest ≡ [] → HasArguments rest) → HasArguments (word ∷ rest)
unfolding walk_fault
with_word word rest p (is_dashes is) utf8 fits more = record { arguments = rest; parts = dashes is }
with_word word rest p (is_long long) utf8 fits more = absurd (unknown_fails p word rest (long_fails p word long) fits)
with_word word rest p (is_short short) utf8 fits more = absurd (unknown_fails p word rest (short_fails p word short (short_has_first word short utf8)) fits)
with_word word rest p (is_plain seen no_option) utf8 fits more =
    let first = plain_moves p word seen in
    let r = more (next_at p word) (sym (ap₂ (λ (k : Kinds) (v : Walk). or_else k (walk_fault shape [] v rest)) first.fits first.there) ∙ fits) in
    record { arguments = word ∷ r.arguments; parts = plain no_option r.parts }

has_arguments : (words : List Text) → AllByRecursion IsUtf8 words → (p : Place) → walk_fault shape [] (walk_at false p) words ≡ [] → HasArguments words
has_arguments [] utf8 p fits = record { arguments = []; parts = none }
has_arguments (word ∷ rest) utf8 p fits = with_word word rest p (kind_of word) utf8.0 fits (has_arguments rest utf8.1)

-- ---- after the words

-- the faults of what the walk holds at its end
abbrev after : Held → Kinds
after end = or_else (settle_fault shape.rules false end)
    (or_else (defaults_fault (settled shape.rules end).rows shape.rules) (check_fault shape (finished shape.rules end) false))

-- the command is missing, or there is no file
nothing_wants : after (held_at start) ≡ MissingRequiredArgument ∷ []
unfolding defaults_fault
nothing_wants = refl

named_wants : (command : Text) → after (held_at (named command)) ≡ MissingRequiredArgument ∷ []
unfolding defaults_fault
named_wants command = refl

-- any positive number of files that fits a machine word passes, and any name
range_fits : (n : ℕ) → 0 < n → n ≤ usize_max → range_kinds 1 usize_max n ≡ []
range_fits n some few =
    let one : (n == 0) ≡ false = ne_eqb n 0 (λ e. omega arith) in
    let least : nat_lt n 1 ≡ false = le-ltb n 1 (omega arith) in
    let most : nat_lt usize_max n ≡ false = le-ltb usize_max n few in
    rw (one, least, most)

values_fit : (values : List Text) → values_kinds false String values ≡ []
values_fit [] = refl
values_fit (v ∷ values) = values_fit values

filed_fits : (command first : Text) (more : List Text) → length (first ∷ more) ≤ usize_max → after (held_at (filed command first more)) ≡ []
unfolding defaults_fault
filed_fits command first more few =
    let settles : settle_fault shape.rules false (held_at (filed command first more)) ≡ [] =
    ap₂ or_else (range_fits (length (first ∷ more)) (omega arith) few) (values_fit (first ∷ more)) in
    ap (λ (k : Kinds). or_else k (or_else (defaults_fault (settled shape.rules (held_at (filed command first more))).rows shape.rules)
    (check_fault shape (finished shape.rules (held_at (filed command first more))) false))) settles

-- the place after all the files
filed_more : (command first : Text) (some more : List Text) → fold next_at (filed command first some) more ≡ filed command first (some ++ more)
filed_more command first some [] = ap (filed command first) (sym (append-nil some))
filed_more command first some (word ∷ more) =
    filed_more command first (some ++ word ∷ []) more ∙ ap (filed command first) (append_assoc some (word ∷ []) more)

-- the faults of the words, followed by those of what is held
fault_is : (words : List Text) → fault_of form words
    ≡ or_else (walk_fault shape [] (walk_at false start) words) (after (fold (walked shape.rules []) (walk_at false start) words).held)
fault_is words = leaf_fault (built form) nothing_held words refl

-- ---- what clap finds

-- clap finds this command and these files
pub record Finds (words : List Text) (command : Text) (files : List Text) : Type 0 where
  pub command_is : first_of (codes "command") (matches_of form words) ≡ Some command
  pub files_are : all_of (codes "files") (matches_of form words) ≡ Some files

finds_filed : (words : List Text) (command first : Text) (more : List Text)
    → (fold (walked shape.rules []) (walk_at false start) words).held ≡ held_at (filed command first more) → Finds words command (first ∷ more)
finds_filed words command first more is = record {
  command_is = ap (λ (h : Held). first_of (codes "command") (finished shape.rules h)) is;
  files_are = ap (λ (h : Held). all_of (codes "files") (finished shape.rules h)) is;
}

-- there are at most as many arguments as words
shorter : {words arguments : List Text} → WithoutDashes words arguments → length arguments ≤ length words
shorter none = omega arith
shorter (dashes is) = omega arith
shorter (plain no_option parts) = let h = shorter parts in omega arith

few_files : {words : List Text} (command : Text) (files : List Text) → WithoutDashes words (command ∷ files) → length words ≤ usize_max
    → length files ≤ usize_max
few_files command files parts few = let h = shorter parts in omega arith

-- clap finds no fault in the words, and finds this command and these files
pub record IsRead (words : List Text) (command : Text) (files : List Text) : Type 0 where
  pub fits : fault_of form words ≡ []
  pub finds : Finds words command files

pub is_read : (words : List Text) (command : Text) (files : List Text) → WithoutDashes words (command ∷ files) → 0 < length files → length words ≤ usize_max
    → IsRead words command files
is_read words command [] parts some few = absurd (omega arith)
is_read words command (first ∷ more) parts some few =
    let r = reaches parts start in
    let held = r.held ∙ ap held_at (filed_more command first [] more) in
    record {
      fits = fault_is words ∙ ap₂ or_else r.fits (ap after held ∙ filed_fits command first more (few_files command (first ∷ more) parts few));
      finds = finds_filed words command first more held;
    }

-- the words are a command and one or more files, and clap finds them
pub record AreFound (words : List Text) : Type 0 where
  pub command : Text
  pub files : List Text
  pub parts : WithoutDashes words (command ∷ files)
  pub some : 0 < length files
  pub finds : Finds words command files

first_empty : (a b : Kinds) → or_else a b ≡ [] → a ≡ []
first_empty [] b e = refl
first_empty (k ∷ ks) b e = e

second_empty : (a b : Kinds) → or_else a b ≡ [] → b ≡ []
second_empty [] b e = e
second_empty (k ∷ ks) b e = absurd (some_fail k ks e)

has_one : (first : Text) (more : List Text) → 0 < length (first ∷ more)
has_one first more = omega arith

found_by : (words arguments : List Text) → WithoutDashes words arguments
    → (fold (walked shape.rules []) (walk_at false start) words).held ≡ held_at (fold next_at start arguments)
    → after (held_at (fold next_at start arguments)) ≡ [] → AreFound words
found_by words [] parts held fits = absurd (some_fail MissingRequiredArgument [] (sym nothing_wants ∙ fits))
found_by words (command ∷ []) parts held fits = absurd (some_fail MissingRequiredArgument [] (sym (named_wants command) ∙ fits))
found_by words (command ∷ first ∷ more) parts held fits = record {
  command = command;
  files = first ∷ more;
  parts = parts;
  some = has_one first more;
  finds = finds_filed words command first more (held ∙ ap held_at (filed_more command first [] more));
}

pub are_found : (words : List Text) → AllByRecursion IsUtf8 words → fault_of form words ≡ [] → AreFound words
are_found words utf8 fits =
    let fails = walk_fault shape [] (walk_at false start) words in
    let fails_after = after (fold (walked shape.rules []) (walk_at false start) words).held in
    let both = sym (fault_is words) ∙ fits in
    let h = has_arguments words utf8 start (first_empty fails fails_after both) in
    let r = reaches h.parts start in
    found_by words h.arguments h.parts r.held (sym (ap after r.held) ∙ second_empty fails fails_after both)
