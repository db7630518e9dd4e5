-- Values in options and in results.
use Rattle.std.proofs.Common.{◌≡◌, Option, Some, None, Result, Ok, Err}

pub one_value : {A : Type 0} {o : Option A} {x y : A} → o ≡ Some x → o ≡ Some y → x ≡ y
one_value e f = cc

pub some_is_none : {A : Type 0} {x : A} → Some x ≡ None → ⊥
some_is_none e = cc

pub ok_is_err : {A B : Type 0} {x : A} {y : B} → ◌≡◌ {A = Result A B} (Ok x) (Err y) → ⊥
ok_is_err e = cc

pub none_is_some : {A B : Type 0} {x : A} → None ≡ Some x → B
none_is_some e = absurd (cc)

pub err_is_ok : {A B : Type 0} {x : A} {y : B} → ◌≡◌ {A = Result A B} (Err y) (Ok x) → ⊥
err_is_ok e = cc

pub same_ok : {A B : Type 0} {x y : A} → ◌≡◌ {A = Result A B} (Ok x) (Ok y) → x ≡ y
same_ok e = cc

pub same_err : {A B : Type 0} {x y : B} → ◌≡◌ {A = Result A B} (Err x) (Err y) → x ≡ y
same_err e = cc
