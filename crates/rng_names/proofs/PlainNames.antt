-- A class that is one name overlaps with those that hold the name, and the order of the two classes makes no
-- difference.
use Rattle.std.proofs.Common.{◌≡◌, refl, sym, subst, Bool, true, false, IsTrue, IsFalse, Decides}
use Rattle.std.proofs.lemmas.Bool.Decides.{not_from_Decides}
use Rattle.rng_model.specs.names.Names.{Name, NameClass, In, IsPairOfTexts, Overlap, name_is}
use Rattle.rng_model.specs.plain.ClassesApart.{AreApart}
use Rattle.rng_names.specs.plain.EitherWay.{TellsOverlap}

-- the name itself is in both
pub plain_common : (r : Bool) (q : Name) (c d : NameClass) → IsPairOfTexts q → c ≡ name_is q → Decides r (In d q) → IsTrue r → Overlap c d
plain_common r q c d texts e decides told = (q, texts, subst (λ k. In k q) (sym e) refl, decides.0 told)

-- no other name is in the first
pub plain_apart : (r : Bool) (q : Name) (c d : NameClass) → c ≡ name_is q → Decides r (In d q) → IsFalse r → AreApart c d
plain_apart r q c d e decides denied p in_c in_d =
    let same : p ≡ q = subst (λ k. In k p) e in_c in
    not_from_Decides r decides denied (subst (In d) same in_d)

pub swapped : (c d : NameClass) → Overlap c d → Overlap d c
swapped c d both = (both.0, both.1, both.3, both.2)

-- a test of overlap gives the same result in the other order
pub either_way : (c d : NameClass) (yes : Bool) → (IsTrue yes → Overlap c d) → (IsFalse yes → AreApart c d) → (back : Bool) → TellsOverlap d c back → back ≡ yes
either_way c d true common apart true told = refl
either_way c d true common apart false told = let both = common refl in absurd (told.apart refl both.0 both.3 both.2)
either_way c d false common apart true told = let both = told.common refl in absurd (apart refl both.0 both.3 both.2)
either_way c d false common apart false told = refl
