-- What a line that begins or ends a tag leads to, once its name is judged.
use Rattle.std.proofs.Common.{◌≡◌, ◌<◌, ◌∙◌, ◌&&◌, ◌==◌, ap, arith, sym, ℕ, Bool, true, false, cond, List, [], ◌∷◌, length, Option, Ok, refl}
use Rattle.std.specs.Prelude.{nat_le}
use Rattle.std.proofs.lemmas.Bool.{and_parts, lt-leb}
use Rattle.std.proofs.Math.Bool.{and-false}
use Rattle.rng_model.specs.documents.Lines.{open_limit}
use Rattle.rng_model.specs.documents.PyxLines as lines
use Rattle.rng_model.specs.documents.PyxTrees.{Event, an_end, a_string}
use Rattle.pyx.specs.plain.DocumentReader.{Open, State, Tag, Turn, after_events, around, begin_tag, ended, end_in, followed, is_outside, judged, said_read, silent, started}
use Rattle.pyx.specs.plain.DocumentReader.{text_ended}
use Rattle.pyx.specs.plain.LineReader.{is_name, named}
use Rattle.pyx.specs.plain.WrittenNames.{written_of}
use Rattle.pyx.specs.views.ElementView.{is_innermost}

pub not_outside : (s : State) (opened : List Open) → opened ≡ s.opened → (length opened == 0) ≡ false → (s.root && is_outside s) ≡ false
not_outside s opened e some =
    let inside : is_outside s ≡ false = ap (λ (o : List Open). length o == 0) (sym e) ∙ some in
    ap (λ b. s.root && b) inside ∙ and-false s.root

pub few_open : (s : State) (opened : List Open) → opened ≡ s.opened → length opened < 512 → nat_le open_limit (length s.opened) ≡ false
few_open s opened e h = lt-leb 512 (length s.opened) (omega (arith, h, ap length e))

-- the tag and its name do not matter to the text before it
pub start_judged : (bytes : ℕ) (name : List ℕ) (s : State) (t : Option Tag) (opened : List Open) → is_name name ≡ true → (s.root && is_outside s) ≡ false
    → nat_le open_limit (length s.opened) ≡ false → opened ≡ s.opened
    → judged bytes (named (λ x. lines.start x) name) s
    ≡ followed (text_ended (record s { tag = t; opened = opened })) (λ s. silent (begin_tag bytes (written_of name) s))
unfolding named said_read started text_ended
start_judged bytes name s t opened good inside few e = rw (good, inside, few, e) (go (length s.joined == 0)) where
  before : State
  before = record s { tag = t }

  text : List Event
  text = record { line = s.count; kind = a_string s.joined } ∷ []

  go : (b : Bool) → followed (cond b (silent s) (Ok (record s { joined = [] }), text)) (λ s. silent (begin_tag bytes (written_of name) s))
      ≡ followed (cond b (silent before) (Ok (record before { joined = [] }), text)) (λ s. silent (begin_tag bytes (written_of name) s))
  go true = refl
  go false = refl

abbrev pub ended_after : State → Turn State
ended_after s = (Ok (record s { opened = around s.opened }), record { line = s.count; kind = an_end } ∷ [])

end_first : (name : lines.QName) (opened : List Open) (s : State) → is_innermost name opened ≡ true
    → end_in opened name s ≡ followed (text_ended s) ended_after
end_first name [] s e = absurd cc
end_first name (o ∷ outer) s e = rw e refl

pub end_judged : (bytes : ℕ) (name : List ℕ) (s : State) → (is_name name && is_innermost (written_of name) s.opened) ≡ true
    → judged bytes (named (λ x. lines.end x) name) s ≡ followed (text_ended s) ended_after
unfolding named said_read ended
end_judged bytes name s e =
    let p = and_parts (is_name name) (is_innermost (written_of name) s.opened) e in
    rw (p.0) (end_first (written_of name) s.opened s p.1)

pub closes : (turn : Turn State) (new : State) → turn.0 ≡ Ok new → followed turn ended_after ≡ after_events turn.1 (ended_after new)
closes turn new e = rw e refl
