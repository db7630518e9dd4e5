-- Interleavings and cuts of three parts, in twos from either end; and a connector with nothing on one side.
use Rattle.std.proofs.Common.{◌≡◌, refl, ap, ◌∙◌, sym, List, [], ◌++◌, append_assoc, append-nil}
use Rattle.rng_model.specs.simple.Tree.{Connector, choice, group, interleave}
use Rattle.rng_model.proofs.OneSidedInterleavings.{left_alone, right_alone, left_is_all, right_is_all}
use Rattle.rng_model.specs.matching.Document.{Interleaves, done, left, right, Shares, in_order, in_any_order}

pub record Regrouped {A : Type 0} (xs ys zs os : List A) : Type 0 where
  pub two : List A
  pub inner : Interleaves xs ys two
  pub outer : Interleaves two zs os

-- if xs interleaves with (ys with zs), then (xs with ys) interleaves with zs
pub to_left : {A : Type 0} {xs ys zs ws os : List A} → Interleaves xs ws os → Interleaves ys zs ws → Regrouped xs ys zs os
to_left done done = record { two = _; inner = done; outer = done }
to_left (left i) j = let r = to_left i j in record { two = _; inner = left r.inner; outer = left r.outer }
to_left (right i) (left j) = let r = to_left i j in record { two = _; inner = right r.inner; outer = left r.outer }
to_left (right i) (right j) = let r = to_left i j in record { two = _; inner = r.inner; outer = right r.outer }

pub record RegroupedRight {A : Type 0} (xs ys zs os : List A) : Type 0 where
  pub two : List A
  pub inner : Interleaves ys zs two
  pub outer : Interleaves xs two os

pub to_right : {A : Type 0} {xs ys zs ws os : List A} → Interleaves ws zs os → Interleaves xs ys ws → RegroupedRight xs ys zs os
to_right done done = record { two = _; inner = done; outer = done }
to_right (left i) (left j) = let r = to_right i j in record { two = _; inner = r.inner; outer = left r.outer }
to_right (left i) (right j) = let r = to_right i j in record { two = _; inner = left r.inner; outer = right r.outer }
to_right (right i) j = let r = to_right i j in record { two = _; inner = right r.inner; outer = right r.outer }

pub record SharesLeft {A : Type 0} (k : Connector) (xs ys zs os : List A) : Type 0 where
  pub two : List A
  pub inner : Shares k xs ys two
  pub outer : Shares k two zs os

pub shares_left : {A : Type 0} {k : Connector} {xs ys zs ws os : List A} → Shares k xs ws os → Shares k ys zs ws → SharesLeft k xs ys zs os
shares_left {xs = xs} {ys = ys} {zs = zs} (in_order e) (in_order f) =
    record { two = xs ++ ys; inner = in_order refl; outer = in_order (append_assoc xs ys zs ∙ ap (λ ws. xs ++ ws) f ∙ e) }
shares_left (in_any_order i) (in_any_order j) = let r = to_left i j in record { two = _; inner = in_any_order r.inner; outer = in_any_order r.outer }

pub record SharesRight {A : Type 0} (k : Connector) (xs ys zs os : List A) : Type 0 where
  pub two : List A
  pub inner : Shares k ys zs two
  pub outer : Shares k xs two os

pub shares_right : {A : Type 0} {k : Connector} {xs ys zs ws os : List A} → Shares k ws zs os → Shares k xs ys ws → SharesRight k xs ys zs os
shares_right {xs = xs} {ys = ys} {zs = zs} (in_order e) (in_order f) =
    record { two = ys ++ zs; inner = in_order refl; outer = in_order (sym (append_assoc xs ys zs) ∙ ap (λ ws. ws ++ zs) f ∙ e) }
shares_right (in_any_order i) (in_any_order j) = let r = to_right i j in record { two = _; inner = in_any_order r.inner; outer = in_any_order r.outer }

pub nothing_right : {A : Type 0} {k : Connector} {xs os : List A} → Shares k xs [] os → xs ≡ os
nothing_right {xs = xs} (in_order e) = sym (append-nil xs) ∙ e
nothing_right (in_any_order i) = left_is_all i

pub nothing_left : {A : Type 0} {k : Connector} {xs os : List A} → Shares k [] xs os → xs ≡ os
nothing_left (in_order e) = e
nothing_left (in_any_order i) = right_is_all i

pub with_nothing : {A : Type 0} (k : Connector) → (k ≡ choice → ⊥) → (xs : List A) → Shares k xs [] xs
with_nothing choice n xs = absurd (n refl)
with_nothing group n xs = in_order (append-nil xs)
with_nothing interleave n xs = in_any_order (left_alone xs)

pub after_nothing : {A : Type 0} (k : Connector) → (k ≡ choice → ⊥) → (xs : List A) → Shares k [] xs xs
after_nothing choice n xs = absurd (n refl)
after_nothing group n xs = in_order refl
after_nothing interleave n xs = in_any_order (right_alone xs)

pub not_by_choice : {A : Type 0} {k : Connector} {xs ys os : List A} → Shares k xs ys os → k ≡ choice → ⊥
not_by_choice (in_order e) f = cc
not_by_choice (in_any_order i) f = cc
