-- The first bytes of the lines determine which tags are open, and the tag at the end of the lines.
use Rattle.std.proofs.Common.{◌≡◌, ℕ, Bool, true, false, eqb, List, [], ◌∷◌, ◌++◌, refl, sym, ap, subst, ◌∙◌, append_assoc, eq-eqb, arith}
use Rattle.std.specs.List.{All}
use Rattle.std.proofs.lemmas.Bool.{eqb-true}
use Rattle.std.proofs.lemmas.List.{append-nil}
use Rattle.std.proofs.lemmas.List.Elements.{All-nil, All-cons, All-head, All-tail, All-append}
use Rattle.rng_model.proofs.Members.{same_first}
use Rattle.rng_model.specs.documents.Lines.{Line, HasKind, IsBalanced, nothing, other, pair, EndsInTag}
use Rattle.rng_model.specs.documents.PyxClauses.{BeginsOtherwise, Tag, AreOpenTags, none_open, one_open}

-- ---- the first byte

abbrev pub is_kind : ℕ → List ℕ → Bool
is_kind k [] = false
is_kind k (c ∷ cs) = eqb c k

pub kind_is : (k : ℕ) (l : Line) → HasKind k l → is_kind k l.bytes ≡ true
kind_is k l h = rw (h.1, eq-eqb k k refl) refl

has_kind_by : (k : ℕ) (bytes : List ℕ) → is_kind k bytes ≡ true → (rest : List ℕ) × (bytes ≡ k ∷ rest)
has_kind_by k [] e = absurd cc
has_kind_by k (c ∷ cs) e = (cs, ap (λ (x : ℕ). x ∷ cs) (eqb-true c k e))

pub has_kind : (k : ℕ) (l : Line) → is_kind k l.bytes ≡ true → HasKind k l
has_kind k l e = has_kind_by k l.bytes e

pub kind_not : (k : ℕ) (l : Line) → (HasKind k l → ⊥) → is_kind k l.bytes ≡ false
kind_not k l n = go (is_kind k l.bytes) refl where
  go : (b : Bool) → is_kind k l.bytes ≡ b → is_kind k l.bytes ≡ false
  go true e = absurd (n (has_kind k l e))
  go false e = e

pub other_kind : (j k : ℕ) (l : Line) → (j ≡ k → ⊥) → HasKind j l → HasKind k l → ⊥
other_kind j k l n h g = n (same_first (sym h.1 ∙ g.1))

-- ---- the tags so far, and whether the last line belongs to the innermost

pub record Marks : Type 0 where
  pub within : Bool
  pub tags : List Tag

abbrev marks_of : Bool → List Tag → Marks
marks_of within tags = record { within = within; tags = tags }

abbrev begun : Line → Tag
begun l = record { first = l; attributes = [] }

abbrev grown : Line → Tag → Tag
grown l t = record t { attributes = t.attributes ++ l ∷ [] }

-- an `A` line
abbrev attribute_mark : Line → Bool → List Tag → Marks
attribute_mark l true (t ∷ tags) = marks_of true (grown l t ∷ tags)
attribute_mark l true [] = marks_of false []
attribute_mark l false tags = marks_of false tags

-- an end tag
abbrev end_mark : List Tag → Marks
end_mark [] = marks_of false []
end_mark (t ∷ tags) = marks_of false tags

-- by whether the line is a start tag, an `A` line or an end tag
abbrev mark_by : Bool → Bool → Bool → Line → Bool → List Tag → Marks
mark_by true b c l within tags = marks_of true (begun l ∷ tags)
mark_by false true c l within tags = attribute_mark l within tags
mark_by false false true l within tags = end_mark tags
mark_by false false false l within tags = marks_of false tags

abbrev mark : Line → Bool → List Tag → Marks
mark l within tags = mark_by (is_kind 40 l.bytes) (is_kind 65 l.bytes) (is_kind 41 l.bytes) l within tags

unfoldable pub marked : List Line → Bool → List Tag → Marks
marked [] within tags = marks_of within tags
marked (l ∷ ls) within tags = marked ls (mark l within tags).within (mark l within tags).tags

marked_nil : (b : Bool) (tags : List Tag) → marked [] b tags ≡ marks_of b tags
unfolding marked
marked_nil b tags = refl

abbrev marked_after : List Line → Marks → Marks
marked_after ls m = marked ls m.within m.tags

marked_cons : (l : Line) (ls : List Line) (b : Bool) (tags : List Tag) → marked (l ∷ ls) b tags ≡ marked_after ls (mark l b tags)
unfolding marked
marked_cons l ls b tags = refl

marked_append : (xs ys : List Line) (b : Bool) (tags : List Tag) → marked (xs ++ ys) b tags ≡ marked_after ys (marked xs b tags)
unfolding marked
marked_append [] ys b tags = refl
marked_append (l ∷ xs) ys b tags = marked_append xs ys (mark l b tags).within (mark l b tags).tags

mark_start : (l : Line) (b : Bool) (tags : List Tag) → HasKind 40 l → mark l b tags ≡ marks_of true (begun l ∷ tags)
mark_start l b tags h = rw (kind_is 40 l h) refl

mark_attribute : (l : Line) (b : Bool) (tags : List Tag) → HasKind 65 l → mark l b tags ≡ attribute_mark l b tags
mark_attribute l b tags h = rw (h.1) refl

mark_end : (l : Line) (b : Bool) (tags : List Tag) → HasKind 41 l → mark l b tags ≡ end_mark tags
mark_end l b tags h = rw (h.1) refl

mark_none : (l : Line) (b : Bool) (tags : List Tag) → (HasKind 40 l → ⊥) → (HasKind 65 l → ⊥) → (HasKind 41 l → ⊥) → mark l b tags ≡ marks_of false tags
mark_none l b tags n m o = rw (kind_not 40 l n, kind_not 65 l m, kind_not 41 l o) refl

-- a line that is not a start tag or an end tag, after a line that is in no tag
mark_other : (l : Line) (tags : List Tag) → (HasKind 40 l → ⊥) → (HasKind 41 l → ⊥) → mark l false tags ≡ marks_of false tags
mark_other l tags n o = go (is_kind 65 l.bytes) where
  go : (x : Bool) → mark_by (is_kind 40 l.bytes) x (is_kind 41 l.bytes) l false tags ≡ marks_of false tags
  go true = rw (kind_not 40 l n) refl
  go false = rw (kind_not 40 l n, kind_not 41 l o) refl

-- ---- balanced lines

-- the marks of the inner lines of a pair, where the tag may have grown
record Grown (ls : List Line) (t : Tag) (tags : List Tag) : Type 0 where
  within : Bool
  now : Tag
  is : marked ls true (t ∷ tags) ≡ marks_of within (now ∷ tags)

inner_other : (l : Line) (ls : List Line) (t : Tag) (tags : List Tag) (r : Line) (ms : List Line) → (HasKind 40 l → ⊥) → (HasKind 41 l → ⊥) → HasKind 41 r
    → marked (ls ++ r ∷ ms) true (grown l t ∷ tags) ≡ marked ms false tags → marked ls false (t ∷ tags) ≡ marks_of false (t ∷ tags)
    → marked_after (ls ++ r ∷ ms) (mark l true (t ∷ tags)) ≡ marked ms false tags
inner_other l ls t tags r ms n m g grows stays = go (is_kind 65 l.bytes) refl where
  none : is_kind 65 l.bytes ≡ false → mark l true (t ∷ tags) ≡ marks_of false (t ∷ tags)
  none e = rw (kind_not 40 l n, e, kind_not 41 l m) refl

  go : (x : Bool) → is_kind 65 l.bytes ≡ x → marked_after (ls ++ r ∷ ms) (mark l true (t ∷ tags)) ≡ marked ms false tags
  go true e = ap (marked_after (ls ++ r ∷ ms)) (mark_attribute l true (t ∷ tags) (has_kind 65 l e)) ∙ grows
  go false e = ap (marked_after (ls ++ r ∷ ms)) (none e) ∙ marked_append ls (r ∷ ms) false (t ∷ tags) ∙ ap (marked_after (r ∷ ms)) stays
      ∙ marked_cons r ms false (t ∷ tags) ∙ ap (marked_after ms) (mark_end r false (t ∷ tags) g)

mutual
  balanced_marks : {ls : List Line} → IsBalanced ls → (tags : List Tag) → marked ls false tags ≡ marks_of false tags
  balanced_marks nothing tags = marked_nil false tags
  balanced_marks (other {l} {ls} n m d) tags = marked_cons l ls false tags ∙ ap (marked_after ls) (mark_other l tags n m) ∙ balanced_marks d tags
  balanced_marks (pair l r {all} {ls} {ms} h d g c parts) tags =
      ap (λ (x : List Line). marked x false tags) parts ∙ marked_cons l (ls ++ r ∷ ms) false tags ∙ ap (marked_after (ls ++ r ∷ ms)) (mark_start l false tags h)
      ∙ inner_marks d (begun l) tags r ms g ∙ balanced_marks c tags

  -- followed by the end tag
  inner_marks : {ls : List Line} → IsBalanced ls → (t : Tag) (tags : List Tag) (r : Line) (ms : List Line) → HasKind 41 r
      → marked (ls ++ r ∷ ms) true (t ∷ tags) ≡ marked ms false tags
  inner_marks nothing t tags r ms g = marked_cons r ms true (t ∷ tags) ∙ ap (marked_after ms) (mark_end r true (t ∷ tags) g)
  inner_marks (other {l} {ls} n m d) t tags r ms g = marked_cons l (ls ++ r ∷ ms) true (t ∷ tags)
      ∙ inner_other l ls t tags r ms n m g (inner_marks d (grown l t) tags r ms g) (balanced_marks d (t ∷ tags))
  inner_marks (pair l q {all} {ls} {ms = ns} h d k c parts) t tags r ms g =
      ap (λ (x : List Line). marked (x ++ r ∷ ms) true (t ∷ tags)) parts
      ∙ ap (λ (x : List Line). marked (l ∷ x) true (t ∷ tags)) (append_assoc ls (q ∷ ns) (r ∷ ms))
      ∙ marked_cons l (ls ++ q ∷ (ns ++ r ∷ ms)) true (t ∷ tags) ∙ ap (marked_after (ls ++ q ∷ (ns ++ r ∷ ms))) (mark_start l true (t ∷ tags) h)
      ∙ inner_marks d (begun l) (t ∷ tags) q (ns ++ r ∷ ms) k ∙ marked_append ns (r ∷ ms) false (t ∷ tags)
      ∙ ap (marked_after (r ∷ ms)) (balanced_marks c (t ∷ tags)) ∙ marked_cons r ms false (t ∷ tags) ∙ ap (marked_after ms) (mark_end r false (t ∷ tags) g)

-- after a tag
behind_marks : {ls : List Line} → IsBalanced ls → BeginsOtherwise 65 ls → (t : Tag) (tags : List Tag) → (marked ls true (t ∷ tags)).tags ≡ t ∷ tags
behind_marks nothing n t tags = ap (λ (m : Marks). m.tags) (marked_nil true (t ∷ tags))
behind_marks (other {l} {ls} m o d) n t tags = ap (λ (m : Marks). m.tags) (marked_cons l ls true (t ∷ tags)
    ∙ ap (marked_after ls) (mark_none l true (t ∷ tags) m (n l ls refl) o) ∙ balanced_marks d (t ∷ tags))
behind_marks (pair l r {all} {ls} {ms} h d g c parts) n t tags = ap (λ (m : Marks). m.tags)
    (ap (λ (x : List Line). marked x true (t ∷ tags)) parts ∙ marked_cons l (ls ++ r ∷ ms) true (t ∷ tags)
    ∙ ap (marked_after (ls ++ r ∷ ms)) (mark_start l true (t ∷ tags) h)
    ∙ inner_marks d (begun l) (t ∷ tags) r ms g ∙ balanced_marks c (t ∷ tags))

-- ---- a tag at the end, and open tags

attributes_mark : (ls : List Line) → All (HasKind 65) ls → (t : Tag) (tags : List Tag)
    → marked ls true (t ∷ tags) ≡ marks_of true (record t { attributes = t.attributes ++ ls } ∷ tags)
attributes_mark [] h t tags = marked_nil true (t ∷ tags) ∙ rw (append-nil t.attributes) refl
attributes_mark (l ∷ ls) h t tags = marked_cons l ls true (t ∷ tags)
    ∙ ap (marked_after ls) (mark_attribute l true (t ∷ tags) (All-head (HasKind 65) l ls h))
    ∙ attributes_mark ls (All-tail (HasKind 65) l ls h) (grown l t) tags ∙ rw (append_assoc t.attributes (l ∷ []) ls) refl

tag_marks : (front : List Line) (l : Line) (attributes : List Line) (b : Bool) (tags : List Tag) → HasKind 40 l → All (HasKind 65) attributes
    → marked (front ++ l ∷ attributes) b tags ≡ marks_of true (record { first = l; attributes = attributes } ∷ (marked front b tags).tags)
tag_marks front l attributes b tags h each = marked_append front (l ∷ attributes) b tags
    ∙ marked_cons l attributes (marked front b tags).within (marked front b tags).tags
    ∙ ap (marked_after attributes) (mark_start l (marked front b tags).within (marked front b tags).tags h)
    ∙ attributes_mark attributes each (begun l) (marked front b tags).tags

-- after all lines
abbrev pub marks : List Line → Marks
marks ls = marked ls false []

pub open_marks : {ls : List Line} {tags : List Tag} → AreOpenTags ls tags → (marks ls).tags ≡ tags
open_marks (none_open d) = ap (λ (m : Marks). m.tags) (balanced_marks d [])
open_marks (one_open {all} {front} {attributes} {rest} {outer} l d h each n b parts) =
    ap (λ (x : List Line). (marks x).tags) (parts ∙ sym (append_assoc front (l ∷ attributes) rest))
    ∙ ap (λ (m : Marks). m.tags) (marked_append (front ++ l ∷ attributes) rest false [] ∙ ap (marked_after rest) (tag_marks front l attributes false [] h each))
    ∙ behind_marks b n (record { first = l; attributes = attributes }) (marks front).tags
    ∙ ap (λ (x : List Tag). record { first = l; attributes = attributes } ∷ x) (open_marks d)

pub ends_marks : {ls : List Line} (e : EndsInTag ls) → marks ls ≡ marks_of true (record { first = e.tag; attributes = e.others } ∷ (marks e.front).tags)
ends_marks {ls} e = ap marks e.parts ∙ tag_marks e.front e.tag e.others false [] e.opens e.each

pub open_same : {ls : List Line} {xs ys : List Tag} → AreOpenTags ls xs → AreOpenTags ls ys → xs ≡ ys
open_same d e = sym (open_marks d) ∙ open_marks e

-- the last line does not belong to a tag
pub no_tag : {ls : List Line} → (marks ls).within ≡ false → EndsInTag ls → ⊥
no_tag e t = true_false (sym (ap (λ (m : Marks). m.within) (ends_marks t)) ∙ e) where
  true_false : true ≡ false → ⊥
  true_false e = cc

-- ---- one line more

pub balanced_append : {xs ys : List Line} → IsBalanced xs → IsBalanced ys → IsBalanced (xs ++ ys)
balanced_append nothing e = e
balanced_append (other n m d) e = other n m (balanced_append d e)
balanced_append {ys = ys} (pair l r {all} {ls} {ms} h d g c parts) e = pair l r h d g (balanced_append c e) (rw (parts, append_assoc ls (r ∷ ms) ys) refl)

begins_append : (xs ys : List Line) → BeginsOtherwise 65 xs → BeginsOtherwise 65 ys → BeginsOtherwise 65 (xs ++ ys)
begins_append [] ys n m = m
begins_append (x ∷ xs) ys n m = λ l rest e. n l xs (ap (λ (y : Line). y ∷ xs) (same_first e))

pub open_append : {xs ys : List Line} {tags : List Tag} → AreOpenTags xs tags → IsBalanced ys → BeginsOtherwise 65 ys → AreOpenTags (xs ++ ys) tags
open_append (none_open d) e n = none_open (balanced_append d e)
open_append {ys = ys} (one_open {front} {attributes} {rest} l d h each m b parts) e n =
    one_open l d h each (begins_append rest ys m n) (balanced_append b e)
    (rw (parts, append_assoc front (l ∷ (attributes ++ rest)) ys) (ap (λ (x : List Line). front ++ l ∷ x) (append_assoc attributes rest ys)))

pub begins_line : (l : Line) (ls : List Line) → (HasKind 65 l → ⊥) → BeginsOtherwise 65 (l ∷ ls)
begins_line l ls n = λ m rest e h. n (subst (HasKind 65) (sym (same_first e)) h)

pub begins_none : BeginsOtherwise 65 []
begins_none = λ l rest e h. absurd (nowhere l rest e) where
  nowhere : (l : Line) (rest : List Line) → [] ≡ l ∷ rest → ⊥
  nowhere l rest e = cc

no_bracket : (l : Line) → HasKind 65 l → {ls : List Line} → IsBalanced ls → IsBalanced (l ∷ ls)
no_bracket l h d = other (other_kind 65 40 l (λ q. absurd (omega (arith, q))) h) (other_kind 65 41 l (λ q. absurd (omega (arith, q))) h) d

attributes_balanced : (ls : List Line) → All (HasKind 65) ls → IsBalanced ls
attributes_balanced [] h = nothing
attributes_balanced (l ∷ ls) h = no_bracket l (All-head (HasKind 65) l ls h) (attributes_balanced ls (All-tail (HasKind 65) l ls h))

-- a line that is not a start tag, an `A` line or an end tag
pub open_other : {ls : List Line} {tags : List Tag} (l : Line) → AreOpenTags ls tags → (HasKind 40 l → ⊥) → (HasKind 65 l → ⊥) → (HasKind 41 l → ⊥)
    → AreOpenTags (ls ++ l ∷ []) tags
open_other l d n m o = open_append d (other n o nothing) (begins_line l [] m)

-- an end tag
pub open_end : {ls : List Line} {tag : Tag} {outer : List Tag} (l : Line) → AreOpenTags ls (tag ∷ outer) → HasKind 41 l → AreOpenTags (ls ++ l ∷ []) outer
open_end {ls} {tag} {outer} r d g = go d refl where
  go : {tags : List Tag} → AreOpenTags ls tags → tags ≡ tag ∷ outer → AreOpenTags (ls ++ r ∷ []) outer
  go (none_open b) e = absurd cc
  go (one_open {front} {attributes} {rest} {outer = around} l o h each n b parts) e =
      subst (AreOpenTags (ls ++ r ∷ [])) (rest_same _ tag around outer e)
      (subst (λ (x : List Line). AreOpenTags x around) (sym (rw parts (append_assoc front (l ∷ (attributes ++ rest)) (r ∷ []))))
      (open_append o (pair l r h (balanced_append (attributes_balanced attributes each) b) g nothing refl)
      (begins_line l ((attributes ++ rest) ++ r ∷ []) (other_kind 40 65 l (λ q. absurd (omega (arith, q))) h)))) where
        rest_same : (x y : Tag) (xs ys : List Tag) → x ∷ xs ≡ y ∷ ys → xs ≡ ys
        rest_same x y xs ys e = cc

-- the tag at the end of the lines
pub open_tag : {ls : List Line} {outer : List Tag} (e : EndsInTag ls) → AreOpenTags e.front outer
    → AreOpenTags ls (record { first = e.tag; attributes = e.others } ∷ outer)
open_tag e d = one_open {rest = []} e.tag d e.opens e.each begins_none nothing (e.parts
    ∙ ap (λ (x : List Line). e.front ++ e.tag ∷ x) (sym (append-nil e.others)))

-- marks after one more line
pub untagged : (ls : List Line) (l : Line) → (HasKind 40 l → ⊥) → (HasKind 65 l → ⊥) → (marks (ls ++ l ∷ [])).within ≡ false
untagged ls l n m = ap (λ (x : Marks). x.within) (marked_append ls (l ∷ []) false [] ∙ marked_cons l [] (marks ls).within (marks ls).tags
    ∙ marked_nil (mark l (marks ls).within (marks ls).tags).within (mark l (marks ls).within (marks ls).tags).tags)
    ∙ go (is_kind 41 l.bytes) (marks ls).tags where
      go : (x : Bool) (tags : List Tag) → (mark_by (is_kind 40 l.bytes) (is_kind 65 l.bytes) x l (marks ls).within tags).within ≡ false
      go true [] = rw (kind_not 40 l n, kind_not 65 l m) refl
      go true (t ∷ tags) = rw (kind_not 40 l n, kind_not 65 l m) refl
      go false tags = rw (kind_not 40 l n, kind_not 65 l m) refl

abbrev pub tag_begins : (ls : List Line) (l : Line) → HasKind 40 l → EndsInTag (ls ++ l ∷ [])
tag_begins ls l h = record { front = ls; tag = l; others = []; parts = refl; opens = h; each = All-nil (HasKind 65) }

abbrev pub tag_grows : {ls : List Line} (e : EndsInTag ls) (l : Line) → HasKind 65 l → EndsInTag (ls ++ l ∷ [])
tag_grows e l h = record {
  front = e.front;
  tag = e.tag;
  others = e.others ++ l ∷ [];
  parts = rw (e.parts) (append_assoc e.front (e.tag ∷ e.others) (l ∷ []));
  opens = e.opens;
  each = All-append (HasKind 65) e.others (l ∷ []) e.each (All-cons (HasKind 65) l [] h (All-nil (HasKind 65)));
}
