-- A step of the forms of an expression keeps what they are in all.
use Rattle.std.proofs.Common.{◌≡◌, ◌∙◌, List, [], ◌∷◌, ◌++◌, Bool, true, false, cond, refl, sym, ap}
use Rattle.std.proofs.lemmas.List.{append_assoc, append-nil}
use Rattle.rng_model.specs.regexes.Expressions.{Regex, nothing_more, one_of, both, either, times}
use Rattle.rng_model.specs.regexes.plain.LinearForms.{RegexState, Form, is_nullable, is_none_left, forms_of}
use Rattle.xsd_regex.specs.plain.FormSteps.{Work, own_form, work_of, forms_left}

pub left_of_both : (ws vs : List Work) → forms_left (ws ++ vs) ≡ forms_left ws ++ forms_left vs
left_of_both [] vs = refl
left_of_both (w ∷ ws) vs = ap (λ l. forms_of w.0 w.1 ++ l) (left_of_both ws vs) ∙ sym (append_assoc (forms_of w.0 w.1) (forms_left ws) (forms_left vs))

if_nullable : (b : Bool) (w : Work) → forms_left (cond b (w ∷ []) []) ≡ cond b (forms_of w.0 w.1) []
if_nullable true w = append-nil (forms_of w.0 w.1)
if_nullable false w = refl

unless_done : (b : Bool) (w : Work) → forms_left (cond b [] (w ∷ [])) ≡ cond b [] (forms_of w.0 w.1)
unless_done true w = refl
unless_done false w = append-nil (forms_of w.0 w.1)

pub forms_by_parts : (r : Regex) (k : RegexState) → forms_of r k ≡ own_form r k ++ forms_left (work_of r k)
unfolding forms_of
forms_by_parts nothing_more k = refl
forms_by_parts (one_of c) k = refl
forms_by_parts (both a b) k = ap (λ l. forms_of a (b ∷ k) ++ l) (sym (if_nullable (is_nullable a) (b, k)))
forms_by_parts (either a b) k = ap (λ l. forms_of a k ++ l) (sym (append-nil (forms_of b k)))
forms_by_parts (times n m a) k = sym (unless_done (is_none_left m) (a, _))

-- one step of the work: what is done and what is left are the same in all
pub work_step : (done : List Form) (r : Regex) (k : RegexState) (ws : List Work)
    → done ++ forms_left ((r, k) ∷ ws) ≡ (done ++ own_form r k) ++ forms_left (work_of r k ++ ws)
work_step done r k ws =
    ap (λ l. done ++ (l ++ forms_left ws)) (forms_by_parts r k)
    ∙ ap (λ l. done ++ l) (append_assoc (own_form r k) (forms_left (work_of r k)) (forms_left ws))
    ∙ ap (λ l. done ++ (own_form r k ++ l)) (sym (left_of_both (work_of r k) ws))
    ∙ sym (append_assoc done (own_form r k) (forms_left (work_of r k ++ ws)))

-- the work begins with a whole state's first expression, and ends with nothing left
pub work_begins : (r : Regex) (k : RegexState) → forms_of r k ≡ forms_left ((r, k) ∷ [])
work_begins r k = sym (append-nil (forms_of r k))
