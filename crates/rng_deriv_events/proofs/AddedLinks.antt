-- Links that are added, and what they open and leave.
use Rattle.std.proofs.Common.{◌≡◌, ◌⊎◌, inl, inr, ℕ, ◌<◌, ◌+◌, List, [], ◌∷◌, ◌++◌, length, map, take, refl, sym, ap, ◌∙◌, subst, All, Some}
use Rattle.std.proofs.Common.{slice_get, slice_index_or, append_assoc}
use Rattle.std.specs.List.{AllZip}
use Rattle.std.proofs.lemmas.List.{take_more, append-nil}
use Rattle.std.proofs.lemmas.List.Elements.{All-weaker, All-append, All-cons, All-nil, All-head, All-tail, Contains-push, Contains-append_left}
use Rattle.rng_model.proofs.Places.{in_front}
use Rattle.rng_deriv_table.specs.declared.pattern.PatternNumber.{PatternNumber}
use Rattle.rng_deriv_events.specs.views.Levels.{IsBodyOf, IsLinkOf, AddsLinks}
use Rattle.rng_deriv_events.specs.declared.derivatives.StartWay.{StartWay}
use Rattle.rng_deriv_events.specs.declared.level_table.link.Link.{Link}

-- ---- pairs of lists

pub zip_push : {A B : Type 0} (R : A → B → Type 0) (xs : List A) (ys : List B) (x : A) (y : B) → AllZip R xs ys → R x y
    → AllZip R (xs ++ x ∷ []) (ys ++ y ∷ [])
zip_push R [] [] x y h r = (r, tt)
zip_push R [] (v ∷ ys) x y h r = absurd h
zip_push R (u ∷ xs) [] x y h r = absurd h
zip_push R (u ∷ xs) (v ∷ ys) x y h r = (h.0, zip_push R xs ys x y h.1 r)

pub zip_weaker : {A B C D : Type 0} (R : A → B → Type 0) (S : C → D → Type 0) (f : A → C) (g : B → D) → ((x : A) (y : B) → R x y → S (f x) (g y)) →
    (xs : List A) (ys : List B) → AllZip R xs ys → AllZip S (map f xs) (map g ys)
zip_weaker R S f g on [] [] h = tt
zip_weaker R S f g on [] (y ∷ ys) h = absurd h
zip_weaker R S f g on (x ∷ xs) [] h = absurd h
zip_weaker R S f g on (x ∷ xs) (y ∷ ys) h = (on x y h.0, zip_weaker R S f g on xs ys h.1)

pub zip_as : {A B : Type 0} (R S : A → B → Type 0) → ((x : A) (y : B) → R x y → S x y) → (xs : List A) (ys : List B) → AllZip R xs ys → AllZip S xs ys
zip_as R S on [] [] h = tt
zip_as R S on [] (y ∷ ys) h = absurd h
zip_as R S on (x ∷ xs) [] h = absurd h
zip_as R S on (x ∷ xs) (y ∷ ys) h = (on x y h.0, zip_as R S on xs ys h.1)

pub zip_all : {A B : Type 0} (R : A → B → Type 0) (P : A → Type 0) (Q : B → Type 0) → ((x : A) (y : B) → R x y → P x → Q y) →
    (xs : List A) (ys : List B) → AllZip R xs ys → All P xs → All Q ys
zip_all R P Q on [] [] h all = All-nil Q
zip_all R P Q on [] (y ∷ ys) h all = absurd h
zip_all R P Q on (x ∷ xs) [] h all = absurd h
zip_all R P Q on (x ∷ xs) (y ∷ ys) h all =
    All-cons Q y ys (on x y h.0 (All-head P x xs all)) (zip_all R P Q on xs ys h.1 (All-tail P x xs all))

-- ---- links of one way after another

pub no_links : (outer : ℕ) (bodies : List PatternNumber) (links : List Link) → AddsLinks outer [] bodies bodies links links
no_links outer bodies links = record {
  bodies = [];
  links = [];
  bodies_are = sym (append-nil bodies);
  links_are = sym (append-nil links);
  linked = tt;
  of_ways = All-nil (IsBodyOf []);
}

module _ (outer : ℕ) (ws : List StartWay) (w : StartWay) (old base new : List PatternNumber) (before links after : List Link) (l : Link)
    (h : AddsLinks outer ws old base before links) (is : IsLinkOf new outer w l) (pushed : after ≡ links ++ l ∷ []) where
  with_bodies : (more : List PatternNumber) → new ≡ base ++ more → All (IsBodyOf (ws ++ w ∷ [])) more
      → AddsLinks outer (ws ++ w ∷ []) old new before after
  with_bodies more e each = record {
    bodies = h.bodies ++ more;
    links = h.links ++ l ∷ [];
    bodies_are = e ∙ ap (λ bs. bs ++ more) h.bodies_are ∙ append_assoc old h.bodies more;
    links_are = pushed ∙ ap (λ ls. ls ++ l ∷ []) h.links_are ∙ append_assoc before h.links (l ∷ []);
    linked = zip_push (IsLinkOf new outer) ws h.links w l (zip_as (IsLinkOf base outer) (IsLinkOf new outer) kept ws h.links h.linked) is;
    of_ways = All-append (IsBodyOf (ws ++ w ∷ [])) h.bodies more (All-weaker (IsBodyOf ws) (IsBodyOf (ws ++ w ∷ [])) among h.bodies h.of_ways) each;
  } where
    kept : (v : StartWay) (k : Link) → IsLinkOf base outer v k → IsLinkOf new outer v k
    kept v k h = (h.0, subst (λ bs. slice_get bs k.inner ≡ Some v.body) (sym e) (in_front base more k.inner v.body h.1), h.2)

    among : (b : PatternNumber) → IsBodyOf ws b → IsBodyOf (ws ++ w ∷ []) b
    among b h = (h.0, Contains-append_left ws (w ∷ []) h.0 h.1, h.2)

  pub links_more : ((new ≡ base) ⊎ (new ≡ base ++ w.body ∷ [])) → AddsLinks outer (ws ++ w ∷ []) old new before after
  links_more (inl e) = with_bodies [] (e ∙ sym (append-nil base)) (All-nil (IsBodyOf (ws ++ w ∷ [])))
  links_more (inr e) = with_bodies (w.body ∷ []) e
      (All-cons (IsBodyOf (ws ++ w ∷ [])) w.body [] (w, Contains-push ws w, refl) (All-nil (IsBodyOf (ws ++ w ∷ []))))

pub links_at : (outer : ℕ) (ways : List StartWay) (i : ℕ) (d : StartWay) (old base new : List PatternNumber) (before links after : List Link) (inner : ℕ) →
    AddsLinks outer (take i ways) old base before links → i < length ways → slice_get new inner ≡ Some (slice_index_or ways i d).body →
    ((new ≡ base) ⊎ (new ≡ base ++ (slice_index_or ways i d).body ∷ [])) →
    after ≡ links ++ record { inner = inner; outer = outer; rest = (slice_index_or ways i d).rest } ∷ [] →
    AddsLinks outer (take (i + 1) ways) old new before after
links_at outer ways i d old base new before links after inner h lt found grown pushed =
    subst (λ ws. AddsLinks outer ws old new before after) (sym (take_more ways i d lt))
    (links_more outer (take i ways) (slice_index_or ways i d) old base new before links after
    (record { inner = inner; outer = outer; rest = (slice_index_or ways i d).rest }) h (refl, found, refl) pushed grown)
