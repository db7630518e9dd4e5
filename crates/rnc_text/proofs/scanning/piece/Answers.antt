use Rattle.std.proofs.Common.{◌≡◌, ℕ, List, [], ◌∷◌, Some, false, refl, sym, ap, subst, ◌∙◌, inl, inr}
use Rattle.rnc_model.specs.tokens.Tokens.{gap}
use Rattle.rnc_text.specs.plain.CutSteps.{front, starts_ncname, triple_at}
use Rattle.rnc_text.specs.plain.Cursors.{remaining, IsPast}
use Rattle.rnc_model.specs.declared.character.Character.TheVariants.{LineEnd, Ordinary}
use Rattle.rnc_model.specs.declared.character.Character.{Character}
use Rattle.rnc_text.specs.declared.scanning.Class.TheVariants as classes
use Rattle.rnc_text.proofs.Cursors.{past_then}
use Rattle.rnc_text.proofs.ScanResults.{piece_none, piece_line, piece_name, piece_blank, piece_hash, piece_backslash, piece_quote, piece_sign, IsOther, or_left}
use Rattle.rnc_text.proofs.ScanResults.{or_right, finds_gap, finds_same, finds_all}
use Rattle.rnc_text.proofs.scanning.piece.Goals as goal

pub returns-in_err-first : goal.returns-in_err-first
returns-in_err-first c = rw c.from_residual.ensures (piece_none _ c.in_err-first.ensures)

pub returns-in-LineEnd : goal.returns-in-LineEnd
returns-in-LineEnd c =
    let p : IsPast c.args.from (LineEnd ∷ []) c.in_ok-first.after = rw c.in-LineEnd.is at c.in_ok-first.ensures in
    finds_gap c.args.from c.in_ok-first.after _ _ (LineEnd ∷ []) (piece_line _ _ p.rest) p refl

pub returns-in-Ordinary : goal.returns-in-Ordinary
returns-in-Ordinary c =
    let p : IsPast c.args.from (Ordinary c.in-Ordinary.c ∷ []) c.in_ok-first.after = rw c.in-Ordinary.is at c.in_ok-first.ensures in
    finds_same _ _ _ _ _ (piece_name _ _ _ p.rest (sym c.starts_ncname.ensures ∙ c.if-starts_ncname.true)) c.name.ensures

pub returns-in-Ordinary-eq32 : goal.returns-in-Ordinary-eq32
returns-in-Ordinary-eq32 c =
    let p : IsPast c.args.from (Ordinary c.in-Ordinary-eq32.field-0 ∷ []) c.in_ok-first.after = rw c.in-Ordinary-eq32.is at c.in_ok-first.ensures in
    finds_gap c.args.from c.in_ok-first.after _ _ (Ordinary c.in-Ordinary-eq32.field-0 ∷ [])
    (piece_blank _ _ _ p.rest (rw c.in-Ordinary-eq32.is at c.in-Ordinary-eq32.field-0-test)) p refl

pub returns-in-Ordinary-eq35 : goal.returns-in-Ordinary-eq35
returns-in-Ordinary-eq35 c =
    let n = c.in-Ordinary-eq35.field-0 in
    let p : IsPast c.args.from (Ordinary n ∷ []) c.in_ok-first.after = rw c.in-Ordinary-eq35.is at c.in_ok-first.ensures in
    let all = Ordinary n ∷ front classes.Line (remaining c.in_ok-first.after) in
    finds_gap c.args.from c.past.result _ _ all
    (piece_hash _ _ _ p.rest (rw c.in-Ordinary-eq35.is at c.in-Ordinary-eq35.field-0-test)
    ∙ ap (λ (x : List Character). Some (gap all, x)) (sym c.past.ensures.rest))
    (past_then c.args.from c.in_ok-first.after c.past.result (Ordinary n ∷ []) (front classes.Line (remaining c.in_ok-first.after)) p c.past.ensures.past) refl

pub returns-in-Ordinary-eq92 : goal.returns-in-Ordinary-eq92
returns-in-Ordinary-eq92 c =
    let n = c.in-Ordinary-eq92.field-0 in
    let p : IsPast c.args.from (Ordinary n ∷ []) c.in_ok-first.after = rw c.in-Ordinary-eq92.is at c.in_ok-first.ensures in
    let e : n ≡ 0x5C = rw c.in-Ordinary-eq92.is at c.in-Ordinary-eq92.field-0-test in
    finds_all _ _ _ _ (piece_backslash _ _ _ p.rest e)
    (c.quoted_identifier.ensures c.args.from (subst (λ (n : ℕ). IsPast c.args.from (Ordinary n ∷ []) c.in_ok-first.after) e p))

pub returns-in-Some : goal.returns-in-Some
returns-in-Some c =
    let n = c.in-Ordinary-eq34.c in
    let p : IsPast c.args.from (Ordinary n ∷ []) c.in_ok-first.after = rw c.in-Ordinary-eq34.is at c.in_ok-first.ensures in
    let f = c.in-Some.ensures c.args.from p in
    finds_same c.args.from c.in-Some.found.1 c.in-Some.found.0 (triple_at n (remaining c.in_ok-first.after)) _
    (piece_quote _ _ _ p.rest (rw c.in-Ordinary-eq34.is at c.in-Ordinary-eq34.c-test) ∙ or_left _ _ _ f.is ∙ sym f.is) f

pub returns-in-None : goal.returns-in-None
returns-in-None c =
    let n = c.in-Ordinary-eq34.c in
    let p : IsPast c.args.from (Ordinary n ∷ []) c.in_ok-first.after = rw c.in-Ordinary-eq34.is at c.in_ok-first.ensures in
    finds_all _ _ _ _ (piece_quote _ _ _ p.rest (rw c.in-Ordinary-eq34.is at c.in-Ordinary-eq34.c-test) ∙ or_right _ _ (c.in-None.ensures c.args.from p))
    (c.segment.ensures c.args.from p)

pub returns-in-Ordinary-2 : goal.returns-in-Ordinary-2
returns-in-Ordinary-2 c =
    let n = c.in-Ordinary-2.c in
    let p : IsPast c.args.from (Ordinary n ∷ []) c.in_ok-first.after = rw c.in-Ordinary-2.is at c.in_ok-first.ensures in
    let t = rw c.in-Ordinary-2.is at c.in-Ordinary-2.c-test in
    let e : c.in-Ordinary.c ≡ n = cc (sym c.in-Ordinary.is ∙ c.in-Ordinary-2.is) in
    let o : IsOther n = record {
      no_name = subst (λ (n : ℕ). starts_ncname n ≡ false) e (sym c.starts_ncname.ensures ∙ c.if-starts_ncname.false);
      no_space = λ h. t.0.0.0.1 (inr h);
      no_tab = λ h. t.0.0.0.1 (inl h);
      no_hash = t.0.0.1;
      no_backslash = t.0.1;
      no_mark = λ h. t.1 (inl h);
      no_apostrophe = λ h. t.1 (inr h);
    } in
    finds_all _ _ _ _ (piece_sign _ _ _ p.rest o) c.sign.ensures
