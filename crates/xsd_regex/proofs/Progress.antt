-- How far a text is read: the symbols before a place, and what the machine holds there.
use Rattle.std.proofs.Common.{◌≡◌, ◌∙◌, ℕ, ◌<◌, List, [], ◌∷◌, ◌++◌, length, Option, Some, None, refl, sym, ap, subst}
use Rattle.std.specs.Option.{option_and_then}
use Rattle.std.specs.Str.{chars, IsUtf8}
use Rattle.std.proofs.lemmas.List.{append_assoc, append-nil}
use Rattle.rng_model.specs.regexes.Expressions.{Regex}
use Rattle.rng_model.specs.regexes.Symbols.{Symbol}
use Rattle.rng_model.specs.regexes.plain.Spelling.{next_symbol}
use Rattle.rng_model.specs.regexes.plain.Postfix.{Row, postfix}
use Rattle.rng_model.specs.regexes.plain.ClassSteps.{State, Next}
use Rattle.rng_model.specs.regexes.plain.Machine.{run, start, finished, step}
use Rattle.xsd_regex.specs.plain.KeptSteps as kept
use Rattle.xsd_regex.specs.plain.KeptSteps.{Kept}
use Rattle.xsd_regex.specs.views.Readings.{AreRowsOf, IsNoRegex}
use Rattle.xsd_regex.proofs.Spelled.{Joined, joined_start, joined_next, joined_end, joined_stuck, symbols_behind}
use Rattle.xsd_regex.proofs.ReadSymbols.{ReadsTo, ready, in_branch, no_outer}
use Rattle.rng_model.specs.regexes.ExpressionGrammar.{no_piece}
use Rattle.xsd_regex.proofs.SoundExpressions.{step_reads}
use Rattle.xsd_regex.proofs.CompleteExpressions.{is_complete}
use Rattle.xsd_regex.proofs.Regexes.{read_is, read_none, unread_none}
use Rattle.xsd_regex.proofs.KeptRows.{posts, Same, Follows, IsWhole, follows, ends_whole}

pub record Progress (text rest : List ℕ) (w : Kept) : Type 0 where
  pub before : List Symbol
  pub state : State
  pub joined : Joined text before rest
  pub reads : ReadsTo before state
  pub same : Same w state
  pub runs : (us : List Symbol) → run start (before ++ us) ≡ run state us

started : Same kept.start start
unfolding posts postfix
started = record { rows = refl; members = refl; control = refl }

pub progress_start : (text : List ℕ) (w : Kept) → w ≡ kept.start → Progress text text w
progress_start text w e =
    record {
      before = [];
      state = start;
      joined = joined_start text;
      reads = ready (in_branch no_outer no_piece refl);
      same = subst (λ v. Same v start) (sym e) started;
      runs = λ us. refl;
    }

-- ---- one symbol

-- the machine goes where what is kept goes
record Goes (u : Symbol) (v : Kept) (s : State) : Type 0 where
  pub to : State
  pub steps : step s u ≡ Some to
  pub same : Same v to

goes : (u : Symbol) (v : Kept) (s : State) (next : Next) → step s u ≡ next → Follows (Some v) next → Goes u v s
goes u v s None e f = absurd f
goes u v s (Some t) e f = record { to = t; steps = e; same = f }

stays : (next : Next) → Follows None next → next ≡ None
stays None f = refl
stays (Some t) f = absurd f

run_on : (s t : State) (u : Symbol) (us : List Symbol) → step s u ≡ Some t → run s (u ∷ us) ≡ run t us
unfolding run
run_on s t u us e = ap (λ n. option_and_then (λ t. run t us) n) e

run_out : (s : State) (u : Symbol) (us : List Symbol) → step s u ≡ None → run s (u ∷ us) ≡ None
unfolding run
run_out s u us e = ap (λ n. option_and_then (λ t. run t us) n) e

pub progress_next : (text rest after : List ℕ) (u : Symbol) (w v : Kept) → ◌≡◌ {A = Option (Symbol × List ℕ)} (Some (u, after)) (next_symbol rest)
    → Some v ≡ kept.step_in w.mode u w → Progress text rest w → Progress text after v
progress_next text rest after u w v e f p =
    let g = goes u v p.state (step p.state u) refl (subst (λ n. Follows n (step p.state u)) (sym f) (follows p.before u w p.state p.reads p.same)) in
    record {
      before = p.before ++ u ∷ [];
      state = g.to;
      joined = joined_next text p.before rest u after (sym e) p.joined;
      reads = step_reads u p.reads g.to g.steps;
      same = g.same;
      runs = λ us. ap (run start) (append_assoc p.before (u ∷ []) us) ∙ p.runs (u ∷ us) ∙ run_on p.state g.to u us g.steps;
    }

pub progress_refused : (text rest after : List ℕ) (u : Symbol) (w : Kept) → ◌≡◌ {A = Option (Symbol × List ℕ)} (Some (u, after)) (next_symbol rest)
    → None ≡ kept.step_in w.mode u w → Progress text rest w → IsNoRegex text
progress_refused text rest after u w e f p r is =
    let none = stays (step p.state u) (subst (λ n. Follows n (step p.state u)) (sym f) (follows p.before u w p.state p.reads p.same)) in
    let back = p.joined.back is.symbols is.written in
    let b = symbols_behind rest u after back.more (sym e) back.are in
    let parts : is.symbols ≡ p.before ++ u ∷ b.more = back.parts ∙ ap (λ l. p.before ++ l) b.parts in
    let all : run start is.symbols ≡ None = ap (run start) parts ∙ p.runs (u ∷ b.more) ∙ run_out p.state u b.more none in
    let both : None ≡ Some r = sym all ∙ is_complete is.symbols r is.read in cc

pub progress_stuck : (text rest : List ℕ) (w : Kept) → 0 < length rest → ◌≡◌ {A = Option (Symbol × List ℕ)} None (next_symbol rest) → Progress text rest w
    → IsNoRegex text
progress_stuck text rest w some e p = unread_none text (joined_stuck text p.before rest some (sym e) p.joined)

-- ---- the end of the text

run_end : (before : List Symbol) (s : State) → ((us : List Symbol) → run start (before ++ us) ≡ run s us) → finished s ≡ run start before
unfolding run
run_end before s runs = sym (runs []) ∙ ap (run start) (append-nil before)

record Ends (rows : List Row) (s : State) : Type 0 where
  pub of : Regex
  pub is : Some of ≡ finished s
  pub rows_are : rows ≡ postfix of

ends : (rows : List Row) (s : State) (o : Option Regex) → o ≡ finished s → IsWhole (Some rows) o → Ends rows s
ends rows s None e f = absurd f
ends rows s (Some r) e f = record { of = r; is = e; rows_are = f }

nothing : (o : Option Regex) → IsWhole None o → None ≡ o
nothing None f = refl
nothing (Some r) f = absurd f

pub progress_whole : (text rest : List ℕ) (w : Kept) (rows : List Row) → length rest ≡ 0 → Some rows ≡ kept.finished_in w.mode w → Progress text rest w
    → AreRowsOf text rows
progress_whole text rest w rows none e p =
    let x = ends rows p.state (finished p.state) refl (subst (λ o. IsWhole o (finished p.state)) (sym e) (ends_whole p.before w p.state p.reads p.same)) in
    (x.of, read_is text p.before x.of (joined_end text p.before rest none p.joined) (x.is ∙ run_end p.before p.state p.runs), x.rows_are)

pub progress_none : (text rest : List ℕ) (w : Kept) → length rest ≡ 0 → None ≡ kept.finished_in w.mode w → Progress text rest w → IsNoRegex text
progress_none text rest w none e p =
    let x = nothing (finished p.state) (subst (λ o. IsWhole o (finished p.state)) (sym e) (ends_whole p.before w p.state p.reads p.same)) in
    read_none text p.before (joined_end text p.before rest none p.joined) (x ∙ run_end p.before p.state p.runs)

-- ---- a place in a text

pub record Reached (text rest : List ℕ) (w : Kept) : Type 0 where
  pub utf8 : IsUtf8 rest
  pub progress : Progress (chars text) (chars rest) w
