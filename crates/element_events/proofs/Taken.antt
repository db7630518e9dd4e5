-- Calls that were taken begin a document, and no document begins with a call that is refused.
use Rattle.std.proofs.Common.{◌≡◌, ℕ, ◌-◌, ◌==◌, ◌∙◌, Bool, true, false, cond, ◌&&◌, not, List, [], ◌∷◌, ◌++◌, Option, Some, None, refl, sym, ap}
use Rattle.std.proofs.Common.{subst, append_assoc, arith}
use Rattle.std.specs.Prelude.{zero, suc}
use Rattle.std.proofs.lemmas.List.{append-nil}
use Rattle.std.proofs.Math.Dec.{eqb-suc-zero}
use Rattle.std.specs.Str.{chars}
use Rattle.rng_model.proofs.Truths.{no_truth}
use Rattle.rng_model.specs.names.Names.{Name}
use Rattle.rng_model.specs.datatypes.Texts.{is_blank}
use Rattle.rng_model.specs.matching.Document.{Attribute, none}
use Rattle.rng_model.specs.plain.WellFormed as w
use Rattle.rng_model.specs.documents.PyxTrees.{Placed, text_at, element_at, none_placed, Event, EventKind, a_start, a_string, an_end, events_of}
use Rattle.rng_model.specs.documents.Telling.{IsGood, text_told, depth_after, text_after, events_at, events_behind, events_told, IsPlacedElement, TellsDocument}
use Rattle.rng_model.specs.documents.Telling.{NoneBegins, BeginToTell, TellsTheDocument}
use Rattle.element_events.specs.plain.Calls.{State, is_misplaced, AreTaken}
use Rattle.element_events.proofs.Walks.{at_line, ends_at, content_ends, same_item}
use Rattle.element_events.proofs.Trees.{Leads, stays, lead_on, leads_ends, root_of}
use Rattle.element_events.proofs.Sent.{IsSent, unbegun, begun, string_end, is_sent, told_more, AreGood, good_append, good_behind, are_good}

-- the events that these calls and others tell are these and those of the others
abbrev Tells : List Event → ℕ → List ℕ → List Event → Type 0
Tells calls d text sent = (more : List Event) → events_told (calls ++ more) ≡ sent ++ events_behind d text more

-- ---- calls that were taken begin a document

-- the ends of all open elements
closing : ℕ → List Event
closing zero = []
closing (suc d) = at_line 0 an_end ∷ closing d

closing_good : (d : ℕ) → AreGood (closing d)
unfolding closing
closing_good zero = tt
closing_good (suc d) = (tt, closing_good d)

closing_leads : (d : ℕ) (text : List ℕ) → (d ≡ 0 → text ≡ []) → Leads d false (events_behind d text (closing d)) 0 false
unfolding closing events_behind
closing_leads zero text z = rw (z refl) stays
closing_leads (suc d) text z =
    let less : suc d - 1 ≡ d = omega arith in
    lead_on (string_end 0 text d 0)
    (subst (λ (k : ℕ). Leads d false (events_behind k [] (closing d)) 0 false) (sym less) (closing_leads d [] (λ e. refl)))

-- the shortest document
a_name : Name
a_name = record { ns = []; local = 97 ∷ [] }

a_root : List Event
a_root = at_line 0 (a_start a_name []) ∷ at_line 0 an_end ∷ []

a_root_good : AreGood a_root
unfolding a_root a_name chars lib.Utf8.encode
a_root_good = ((refl, refl, none), (tt, tt))

a_root_told : events_behind 0 [] a_root ≡ events_of (element_at 0 a_name [] none_placed 0)
unfolding a_root events_behind
a_root_told = refl

begins_by : (calls sent : List Event) (d : ℕ) (root : Bool) (text : List ℕ) → AreGood calls → Tells calls d text sent → IsSent d root text sent →
    BeginToTell calls sent
begins_by calls sent d root text g h unbegun = record {
  more = a_root;
  tree = element_at 0 a_name [] none_placed 0;
  document = record {
    good = good_append calls a_root g a_root_good;
    element = tt;
    formed = (none, w.nothing, tt);
    events = h a_root ∙ a_root_told;
  };
  events = λ behind other t. (events_behind 0 [] behind, sym t.events ∙ h behind);
}
begins_by calls sent d root text g h (begun {es = es} {q = q} {xs = xs} e i x l z) =
    let r = root_of e q xs (es ++ events_behind d text (closing d)) false i x (lead_on l (closing_leads d text z)) in record {
      more = closing d;
      tree = element_at e.line r.name r.attributes r.kids r.last;
      document = record {
        good = good_append calls (closing d) g (closing_good d);
        element = tt;
        formed = r.formed;
        events = h (closing d) ∙ sym r.walk;
      };
      events = λ behind other t. (events_behind d text behind, sym t.events ∙ h behind);
    }

pub begins : {calls sent : List Event} {s : State} → AreTaken calls s sent → BeginToTell calls sent
begins {calls} {sent} {s} a = begins_by calls sent s.depth s.root s.text (are_good a) (told_more a) (is_sent a)

-- ---- all calls tell a document

no_string : (d : ℕ) (text : List ℕ) → text ≡ [] → events_behind d text [] ≡ []
unfolding events_behind
no_string d text e = rw e refl

whole_by : (calls sent : List Event) (d : ℕ) (root : Bool) (text : List ℕ) → AreGood calls → Tells calls d text sent → IsSent d root text sent →
    d ≡ 0 → root ≡ true → TellsTheDocument calls sent
whole_by calls sent d root text g h unbegun o b = no_truth b
whole_by calls sent d root text g h (begun {es = es} {q = q} {xs = xs} e i x l z) o b =
    let r = root_of e q xs es false i x (subst (λ (k : ℕ). Leads 1 false es k false) o l) in
    let told : events_told calls ≡ e ∷ es = ap events_told (sym (append-nil calls)) ∙ h [] ∙ ap (λ (x : List Event). (e ∷ es) ++ x) (no_string d text (z o))
    ∙ append-nil (e ∷ es) in record {
      tree = element_at e.line r.name r.attributes r.kids r.last;
      document = record { good = g; element = tt; formed = r.formed; events = told ∙ sym r.walk };
      events = r.walk;
      only = λ other t. (same_item other (element_at e.line r.name r.attributes r.kids r.last) [] []
          (append-nil (events_of other) ∙ sym t.events ∙ told ∙ sym r.walk ∙ sym (append-nil (events_of
          (element_at e.line r.name r.attributes r.kids r.last))))).0;
    }

pub whole : {calls sent : List Event} {s : State} → AreTaken calls s sent → s.depth ≡ 0 → s.root ≡ true → TellsTheDocument calls sent
whole {calls} {sent} {s} a o b = whole_by calls sent s.depth s.root s.text (are_good a) (told_more a) (is_sent a) o b

-- ---- what is refused

none_some : {n : ℕ} → ◌≡◌ {A = Option ℕ} None (Some n) → ⊥
none_some e = cc

starts : (n : ℕ) (k : EventKind) (e : Event) (es fs : List Event) → e ∷ es ≡ at_line n k ∷ fs → e.kind ≡ k
starts n k e es fs p = ap (λ (x : Event). x.kind) (head p) where
  head : e ∷ es ≡ at_line n k ∷ fs → e ≡ at_line n k
  head p = cc

tails : (e f : Event) (es fs : List Event) → e ∷ es ≡ f ∷ fs → es ≡ fs
tails e f es fs p = cc

-- the events begin with one that cannot come where no element is open
record Wrong (root : Bool) (es : List Event) : Type 0 where
  first : Event
  rest : List Event
  parts : es ≡ first ∷ rest
  odd : root ≡ false → {q : Name} {xs : List Attribute} → first.kind ≡ a_start q xs → ⊥

nothing : (e : Event) (es : List Event) → ends_at 0 (e ∷ es) ≡ None
unfolding ends_at
nothing e es = refl

no_walk : (d : ℕ) (root : Bool) (text : List ℕ) (sent es : List Event) → IsSent d root text sent → d ≡ 0 → Wrong root es → (tree : Placed) → IsPlacedElement tree →
    sent ++ es ≡ events_of tree → ⊥
no_walk d root text sent es s o u (text_at n t) b p = b
no_walk d root text sent es unbegun o u (element_at n q xs kids m) b p = u.odd refl (starts n (a_start q xs) u.first u.rest _ (sym u.parts ∙ p))
no_walk d root text sent es (begun {es = inner} e i x l z) o u (element_at n q xs kids m) b p =
    none_some (sym (nothing u.first u.rest) ∙ ap (λ (k : ℕ). ends_at k (u.first ∷ u.rest)) (sym o) ∙ sym (leads_ends l (u.first ∷ u.rest))
    ∙ ap (λ (x : List Event). ends_at 1 (inner ++ x)) (sym u.parts) ∙ ap (ends_at 1) (tails e _ (inner ++ es) _ p) ∙ content_ends kids m)

-- a text that is not empty is the first event
record IsString (es : List Event) : Type 0 where
  n : ℕ
  t : List ℕ
  rest : List Event
  parts : es ≡ at_line n (a_string t) ∷ rest

told_string : (d : ℕ) (c : ℕ) (cs : List ℕ) (more : List Event) → IsString (events_behind d (c ∷ cs) more)
unfolding events_behind
told_string d c cs [] = record { n = 0; t = c ∷ cs; rest = []; parts = refl }
told_string d c cs (e ∷ more) = go e.kind (λ d s. told_string d c s more) where
  go : (k : EventKind) → ((d : ℕ) (s : List ℕ) → IsString (events_behind d (c ∷ s) more)) →
      IsString (events_at e.line k (c ∷ cs) ++ events_behind (depth_after k d) (text_after k d (c ∷ cs)) more)
  go (a_start q xs) f = record { n = e.line; t = c ∷ cs; rest = _; parts = refl }
  go (a_string s) f = f d (cs ++ text_told d s)
  go an_end f = record { n = e.line; t = c ∷ cs; rest = _; parts = refl }

shown : (b : Bool) (s : List ℕ) → not b ≡ true → cond b [] s ≡ s
shown true s e = no_truth e
shown false s e = refl

not_blank : (s : List ℕ) → not (is_blank s) ≡ true → s ≡ [] → ⊥
not_blank [] e p = no_truth e
not_blank (c ∷ cs) e p = cc

string_wrong : (root : Bool) (s : List ℕ) (more : List Event) → (s ≡ [] → ⊥) → Wrong root (events_behind 0 s more)
string_wrong root [] more n = absurd (n refl)
string_wrong root (c ∷ cs) more n = let h = told_string 0 c cs more in record {
  first = at_line h.n (a_string h.t);
  rest = h.rest;
  parts = h.parts;
  odd = λ r p. apart p;
} where
  apart : {t : List ℕ} {q : Name} {xs : List Attribute} → a_string t ≡ a_start q xs → ⊥
  apart e = cc

-- a misplaced call where no element is open
wrong : (n : ℕ) (k : EventKind) (root : Bool) (more : List Event) → is_misplaced k 0 root ≡ true →
    Wrong root (events_at n k [] ++ events_behind (depth_after k 0) (text_after k 0 []) more)
wrong n (a_start q xs) root more m = record {
  first = at_line n (a_start q xs);
  rest = _;
  parts = refl;
  odd = λ r p. apart root r m;
} where
  apart : (b : Bool) → b ≡ false → (b && true) ≡ true → ⊥
  apart true r m = cc
  apart false r m = cc
wrong n (a_string s) root more m =
    subst (λ (t : List ℕ). Wrong root (events_behind 0 t more)) (sym (shown (is_blank s) s m)) (string_wrong root s more (not_blank s m))
wrong n an_end root more m = record {
  first = at_line n an_end;
  rest = _;
  parts = refl;
  odd = λ r p. apart p;
} where
  apart : {q : Name} {xs : List Attribute} → an_end ≡ a_start q xs → ⊥
  apart e = cc

-- only where no element is open is a call misplaced
outside : (k : EventKind) (d : ℕ) (root : Bool) → is_misplaced k d root ≡ true → d ≡ 0
outside k zero root m = refl
outside (a_start q xs) (suc d) root m = absurd (apart root (d_is d m)) where
  d_is : (d : ℕ) → (root && suc d == 0) ≡ true → (root && false) ≡ true
  d_is d m = rw eqb-suc-zero at m

  apart : (b : Bool) → (b && false) ≡ true → ⊥
  apart true e = cc
  apart false e = cc
outside (a_string s) (suc d) root m = no_truth (rw eqb-suc-zero at m)
outside an_end (suc d) root m = no_truth (sym (eqb-suc-zero d) ∙ m)

no_text : (d : ℕ) (root : Bool) (text : List ℕ) (sent : List Event) → IsSent d root text sent → d ≡ 0 → text ≡ []
no_text d root text sent unbegun o = refl
no_text d root text sent (begun e i x l z) o = z o

behind_is : (c : Event) (more : List Event) →
    events_behind 0 [] (c ∷ more) ≡ events_at c.line c.kind [] ++ events_behind (depth_after c.kind 0) (text_after c.kind 0 []) more
unfolding events_behind
behind_is c more = refl

misplaced_by : (calls sent : List Event) (d : ℕ) (root : Bool) (text : List ℕ) (c : Event) → Tells calls d text sent → IsSent d root text sent →
    is_misplaced c.kind d root ≡ true → NoneBegins (calls ++ c ∷ [])
misplaced_by calls sent d root text c h s m more tree t =
    let o = outside c.kind d root m in
    no_walk d root text sent (events_behind d text (c ∷ more)) s o
    (at_outside d text (c ∷ more) o (no_text d root text sent s o) (behind_wrong (subst (λ (k : ℕ). is_misplaced c.kind k root ≡ true) o m))) tree t.element
    (sym (h (c ∷ more)) ∙ sym (ap events_told (append_assoc calls (c ∷ []) more)) ∙ t.events) where
      at_outside : (d : ℕ) (text : List ℕ) (es : List Event) → d ≡ 0 → text ≡ [] → Wrong root (events_behind 0 [] es) → Wrong root (events_behind d text es)
      at_outside d text es o e u = rw (o, e) u

      behind_wrong : is_misplaced c.kind 0 root ≡ true → Wrong root (events_behind 0 [] (c ∷ more))
      behind_wrong e = subst (Wrong root) (sym (behind_is c more)) (wrong c.line c.kind root more e)

pub misplaced : {calls sent : List Event} {s : State} → AreTaken calls s sent → (c : Event) → is_misplaced c.kind s.depth s.root ≡ true →
    NoneBegins (calls ++ c ∷ [])
misplaced {calls} {sent} {s} a c m = misplaced_by calls sent s.depth s.root s.text c (told_more a) (is_sent a) m

pub not_good : (calls : List Event) (c : Event) → (IsGood c.kind → ⊥) → NoneBegins (calls ++ c ∷ [])
not_good calls c bad more tree t = bad (good_behind calls (c ∷ more) (subst AreGood (append_assoc calls (c ∷ []) more) t.good)).0

-- no calls begin a document with more of them
pub none_more : (calls : List Event) (c : Event) → NoneBegins calls → NoneBegins (calls ++ c ∷ [])
none_more calls c n more tree t = n (c ∷ more) tree (subst (λ (x : List Event). TellsDocument x tree) (append_assoc calls (c ∷ []) more) t)

pub none_tells : (calls : List Event) → NoneBegins calls → (tree : Placed) → TellsDocument calls tree → ⊥
none_tells calls n tree t = n [] tree (subst (λ (x : List Event). TellsDocument x tree) (sym (append-nil calls)) t)

-- ---- calls that tell no whole document

some_zero : (d : ℕ) → ◌≡◌ {A = Option ℕ} (Some (suc d)) (Some 0) → ⊥
some_zero d e = apart (inside e) where
  inside : ◌≡◌ {A = Option ℕ} (Some (suc d)) (Some 0) → suc d ≡ 0
  inside e = cc

  apart : suc d ≡ 0 → ⊥
  apart e = absurd (omega arith)

open_still : (d : ℕ) (text : List ℕ) → ends_at (suc d) (events_behind (suc d) text []) ≡ Some (suc d)
unfolding ends_at events_behind
open_still d [] = refl
open_still d (c ∷ cs) = refl

unfinished_by : (calls sent : List Event) (d : ℕ) (root : Bool) (text : List ℕ) → Tells calls d text sent → IsSent d root text sent → (root && d == 0) ≡ false →
    (tree : Placed) → IsPlacedElement tree → events_told calls ≡ events_of tree → ⊥
unfinished_by calls sent d root text h s u (text_at n t) b p = b
unfinished_by calls sent zero root text h unbegun u (element_at n q xs kids m) b p =
    nowhere (sym (ap events_told (sym (append-nil calls)) ∙ h [] ∙ no_string 0 [] refl) ∙ p) where
      nowhere : [] ≡ events_of (element_at n q xs kids m) → ⊥
      nowhere e = cc
unfinished_by calls sent zero root text h (begun e i x l z) u (element_at n q xs kids m) b p = no_truth (sym u)
unfinished_by calls sent (suc d) root text h (begun {es = inner} e i x l z) u (element_at n q xs kids m) b p =
    some_zero d (sym (open_still d text) ∙ sym (leads_ends l (events_behind (suc d) text []))
    ∙ ap (ends_at 1) (tails e _ (inner ++ events_behind (suc d) text []) _ (sym (ap events_told (sym (append-nil calls)) ∙ h []) ∙ p)) ∙ content_ends kids m)

pub unfinished : {calls sent : List Event} {s : State} → AreTaken calls s sent → (s.root && s.depth == 0) ≡ false → (tree : Placed) →
    TellsDocument calls tree → ⊥
unfinished {calls} {sent} {s} a u tree t = unfinished_by calls sent s.depth s.root s.text (told_more a) (is_sent a) u tree t.element t.events
