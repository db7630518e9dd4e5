use Rattle.std.proofs.Common.{◌∙◌, ◌++◌, ◌∷◌, [], List, sym, ap, rules}
use Rattle.std.proofs.lemmas.Str.{IsUtf8-string_bytes}
use Rattle.rnc_model.specs.declared.character.Character.{Character}
use Rattle.rnc_model.specs.declared.character.Character.TheVariants.{Ordinary}
use Rattle.rnc_text.proofs.Held.{grows_plain, grows_marked, pushed, still_marks, unmarked_other}
use Rattle.rnc_text.proofs.text.Text.push.Goals as goal

-- ---- a line end

pub invariant_of-self : goal.invariant_of-self
invariant_of-self c =
    still_marks c.push.result _ _ _ 10 c.push.ensures.bytes (IsUtf8-string_bytes c.self.inside.text) (IsUtf8-string_bytes c.push.new.self) c.self.invariant

pub returns-in-LineEnd : goal.returns-in-LineEnd
returns-in-LineEnd c =
    pushed c.push.result _ _ _ 10 _ _ c.push.ensures.bytes (IsUtf8-string_bytes c.self.inside.text) (IsUtf8-string_bytes c.push.new.self) c.self.invariant
    (sym c.in-LineEnd.is) c.self.view_is

-- ---- an LF that is no line end

pub invariant_of-self-in_err-push-in-Ordinary-eq10-2 : goal.invariant_of-self-in_err-push-in-Ordinary-eq10-2
invariant_of-self-in_err-push-in-Ordinary-eq10-2 c =
    rw c.in_err-push-in-Ordinary-eq10-2.ensures.items
    (grows_plain _ _ _ 10 (IsUtf8-string_bytes c.self.inside.text) (IsUtf8-string_bytes c.push-in-Ordinary-eq10.new.self)
    c.in_ok-push-in-Ordinary-eq10.ensures.bytes c.self.invariant).are

pub invariant_of-self-in-Ordinary-eq10 : goal.invariant_of-self-in-Ordinary-eq10
invariant_of-self-in-Ordinary-eq10 c =
    (grows_marked _ _ _ _ 10 (IsUtf8-string_bytes c.self.inside.text) (IsUtf8-string_bytes c.push-in-Ordinary-eq10.new.self)
    c.in_ok-push-in-Ordinary-eq10.ensures.bytes (search rules) c.self.invariant).are

pub returns-in_ok-push-in-Ordinary-eq10-2 : goal.returns-in_ok-push-in-Ordinary-eq10-2
returns-in_ok-push-in-Ordinary-eq10-2 c =
    (grows_marked _ _ _ _ 10 (IsUtf8-string_bytes c.self.inside.text) (IsUtf8-string_bytes c.push-in-Ordinary-eq10.new.self)
    c.in_ok-push-in-Ordinary-eq10.ensures.bytes (search rules) c.self.invariant).is
    ∙ ap (λ (cs : List Character). cs ++ Ordinary 10 ∷ []) c.self.view_is
    ∙ ap (λ (d : Character). c.args.self.now ++ d ∷ []) (ap Ordinary (sym (rw c.in-Ordinary-eq10.is at c.in-Ordinary-eq10.field-0-test))
    ∙ sym c.in-Ordinary-eq10.is)

-- ---- any other character

pub invariant_of-self-in-Ordinary : goal.invariant_of-self-in-Ordinary
invariant_of-self-in-Ordinary c =
    still_marks c.push-in-Ordinary.result _ _ _ c.in-Ordinary.character c.push-in-Ordinary.ensures.bytes (IsUtf8-string_bytes c.self.inside.text)
    (IsUtf8-string_bytes c.push-in-Ordinary.new.self) c.self.invariant

pub returns-in-Ordinary : goal.returns-in-Ordinary
returns-in-Ordinary c =
    pushed c.push-in-Ordinary.result _ _ _ c.in-Ordinary.character _ _ c.push-in-Ordinary.ensures.bytes (IsUtf8-string_bytes c.self.inside.text)
    (IsUtf8-string_bytes c.push-in-Ordinary.new.self) c.self.invariant
    (unmarked_other _ (λ e. c.in-Ordinary.character-test.1 (rw c.in-Ordinary.is e)) ∙ sym c.in-Ordinary.is) c.self.view_is
