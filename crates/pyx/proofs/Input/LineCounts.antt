-- Bounds on the counts of lines and of the bytes of a tag.
use Rattle.std.proofs.Common.{◌≡◌, ℕ, ◌+◌, ◌≤◌, Bool, true, false, cond, ◌&&◌, List, [], ◌∷◌, ◌++◌, length, Option, Some, None, Result, Ok, Err, refl, ap, ◌∙◌}
use Rattle.std.proofs.Common.{arith, lit≤}
use Rattle.std.specs.Prelude.{nat_le, is_some}
use Rattle.rng_model.specs.documents.Lines.{Line, open_limit, Fault}
use Rattle.rng_model.specs.documents.PyxLines as lines
use Rattle.rng_model.specs.documents.PyxLines.{Said, QName}
use Rattle.rng_model.specs.documents.PyxNamespaces.{WrittenAttribute}
use Rattle.rng_model.specs.documents.PyxTrees.{Event}
use Rattle.pyx.specs.plain.Cuts.{behind}
use Rattle.pyx.specs.plain.LineReader.{said_of}
use Rattle.pyx.specs.plain.TagReader.{Element, tag_read}
use Rattle.pyx.specs.plain.Declarations.{declared_by}
use Rattle.pyx.specs.plain.DocumentReader.{State, Tag, Open, Turn, fault, silent, go_on, followed, tag_bytes, tag_closed, close_tag, tag_ended, text_ended}
use Rattle.pyx.specs.plain.DocumentReader.{begin_tag}
use Rattle.pyx.specs.plain.DocumentReader.{is_outside, started, add_attribute, attributed, joined_by, end_in, ended, said_read, judged, line_read, declared_in}

-- if a turn has no fault, this many lines are counted after it, and the tag has at most this many bytes
pub record Within (n m : ℕ) (turn : Turn State) : Type 0 where
  pub at : (t : State) → turn.0 ≡ Ok t → (t.count ≡ n) × (tag_bytes t.tag ≤ m)

if_within : (n m : ℕ) (b : Bool) (x y : Turn State) → Within n m x → Within n m y → Within n m (cond b x y)
if_within n m true x y p q = p
if_within n m false x y p q = q

fault_within : (n m k j : ℕ) → Within n m (fault k j)
fault_within n m k j = record { at = λ t e. absurd (cc) }

ok_within : (n m : ℕ) (s : State) (es : List Event) → s.count ≡ n → tag_bytes s.tag ≤ m → Within n m (Ok s, es)
ok_within n m s es e f = record { at = λ t q. let p : s ≡ t = cc in rw (← p) (e, f) }

go_within : (n m : ℕ) (f : State → Turn State) (r : Result State Fault) (es : List Event) →
    ((t : State) → r ≡ Ok t → Within n m (f t)) → Within n m (go_on r es f)
go_within n m f (Ok s) es h = record { at = (h s refl).at }
go_within n m f (Err e) es h = record { at = λ t q. absurd (cc) }

followed_within : (n m : ℕ) (turn : Turn State) (f : State → Turn State) → ((t : State) → turn.0 ≡ Ok t → Within n m (f t)) → Within n m (followed turn f)
followed_within n m turn f h = go_within n m f turn.0 turn.1 h

closed_within : (r : Result Element ℕ) (t : Tag) (s : State) → Within s.count 0 (tag_closed r t s)
closed_within (Ok e) t s = ok_within s.count 0 _ _ refl (lit≤ tt)
closed_within (Err k) t s = fault_within _ _ _ _

tag_within : (o : Option Tag) (s : State) → s.tag ≡ o → Within s.count (tag_bytes s.tag) (close_tag o s)
tag_within None s e = ok_within s.count _ s _ refl (omega arith)
tag_within (Some t) s e = record {
  at = λ u q. let p = (closed_within (tag_read (declared_in s.opened) t.name t.declared t.others) t s).at u q in
      (p.0, omega (arith, p.1));
}

ended_within : (bytes : List ℕ) (s : State) → Within s.count (tag_bytes s.tag) (tag_ended bytes s)
unfolding tag_ended
ended_within bytes s = if_within _ _ (is_some (behind 65 bytes)) _ _ (ok_within s.count _ s _ refl (omega arith)) (tag_within s.tag s refl)

pub tag_ended_keeps : (bytes : List ℕ) (s t : State) → (tag_ended bytes s).0 ≡ Ok t → (t.count ≡ s.count) × (tag_bytes t.tag ≤ tag_bytes s.tag)
tag_ended_keeps bytes s t e = (ended_within bytes s).at t e

pub text_within : (s : State) → Within s.count (tag_bytes s.tag) (text_ended s)
unfolding text_ended
text_within s = if_within _ _ _ _ _ (ok_within s.count _ s _ refl (omega arith)) (ok_within s.count _ _ _ refl (omega arith))

-- after this many more bytes
abbrev More : ℕ → State → Turn State → Type 0
More bytes s turn = Within s.count (tag_bytes s.tag + bytes) turn

started_within : (bytes : ℕ) (name : QName) (s : State) → More bytes s (started bytes name s)
unfolding started
started_within bytes name s = if_within _ _ (s.root && is_outside s) (fault 9 s.count)
    (cond (nat_le open_limit (length s.opened)) (fault 10 s.count) (followed (text_ended s) (λ s. silent (begin_tag bytes name s)))) (fault_within _ _ _ _)
    (if_within _ _ (nat_le open_limit (length s.opened)) (fault 10 s.count) (followed (text_ended s) (λ s. silent (begin_tag bytes name s)))
    (fault_within _ _ _ _)
    (followed_within _ _ (text_ended s) _ (λ t e. ok_within _ _ (begin_tag bytes name t) _ ((text_within s).at t e).0 (omega arith))))

with_within : (b : Bool) (bytes : ℕ) (a : WrittenAttribute) (t : Tag) → tag_bytes
    (Some (cond b (record t { declared = t.declared ++ a ∷ []; bytes = t.bytes + bytes })
    (record t { others = t.others ++ a ∷ []; bytes = t.bytes + bytes }))) ≤ t.bytes + bytes
with_within true bytes a t = omega arith
with_within false bytes a t = omega arith

attribute_within : (o : Option Tag) (bytes : ℕ) (a : WrittenAttribute) (s : State) → s.tag ≡ o → More bytes s (add_attribute o bytes a s)
attribute_within None bytes a s e = fault_within _ _ _ _
attribute_within (Some t) bytes a s e = if_within _ _ _ _ _ (fault_within _ _ _ _)
    (ok_within _ _ _ _ refl (rw e (with_within (is_some (declared_by a.name)) bytes a t)))

joined_within : (value : List ℕ) (bytes : ℕ) (s : State) → More bytes s (joined_by value s)
unfolding joined_by
joined_within value bytes s = if_within _ _ _ _ _ (fault_within _ _ _ _) (if_within _ _ _ _ _ (ok_within _ _ _ _ refl (omega arith)) (fault_within _ _ _ _))

end_within : (os : List Open) (name : QName) (bytes : ℕ) (s : State) → More bytes s (end_in os name s)
end_within [] name bytes s = fault_within _ _ _ _
end_within (o ∷ outer) name bytes s = if_within _ _ _ _ _ (followed_within _ _ (text_ended s) _
    (λ t e. ok_within _ _ _ _ ((text_within s).at t e).0 (omega (arith, ((text_within s).at t e).1)))) (fault_within _ _ _ _)

said_within : (bytes : ℕ) (x : Said) (s : State) → More bytes s (said_read bytes x s)
unfolding said_read attributed ended
said_within bytes (lines.start name) s = started_within bytes name s
said_within bytes (lines.attribute name value) s = attribute_within s.tag bytes (record { name = name; content = value }) s refl
said_within bytes (lines.text value) s = joined_within value bytes s
said_within bytes (lines.end name) s = end_within s.opened name bytes s
said_within bytes lines.instruction s = ok_within _ _ _ _ refl (omega arith)

judged_within : (bytes : ℕ) (r : Result Said ℕ) (s : State) → More bytes s (judged bytes r s)
judged_within bytes (Ok x) s = said_within bytes x s
judged_within bytes (Err k) s = fault_within _ _ _ _

line_within : (l : Line) (s : State) → Within (s.count + 1) (tag_bytes s.tag + length l.bytes) (line_read l s)
unfolding line_read
line_within l s = followed_within _ _ (tag_ended l.bytes s) _ (λ t e. record {
  at = λ u q.
      let k = tag_ended_keeps l.bytes s t e in
      let p = (judged_within (length l.bytes) (said_of l) (record t { count = t.count + 1 })).at u q in
      (p.0 ∙ ap (λ n. n + 1) k.0, omega (arith, p.1, k.1));
})

pub line_keeps : (l : Line) (s t : State) → (line_read l s).0 ≡ Ok t → (t.count ≡ s.count + 1) × (tag_bytes t.tag ≤ tag_bytes s.tag + length l.bytes)
line_keeps l s t e = (line_within l s).at t e
