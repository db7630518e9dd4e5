-- The longest front of a class of characters, and what follows it.
use Rattle.std.proofs.Common.{◌≡◌, ℕ, Bool, true, false, List, [], ◌∷◌, ◌++◌, refl, sym, ap, subst, ◌∙◌}
use Rattle.std.specs.Prelude.{◌&&◌, not}
use Rattle.std.specs.List.{list_all}
use Rattle.std.proofs.lemmas.Bool.{and_parts, false≢true}
use Rattle.rng_model.specs.names.Names.{is_name_start, is_name_char, is_colon}
use Rattle.rnc_model.specs.characters.Decoding.{numbers_of}
use Rattle.rnc_model.specs.tokens.Tokens.{IsNcname}
use Rattle.rnc_text.specs.plain.CutSteps.{starts_ncname, is_ncname_number, is_in, front, after, begins_ncname}
use Rattle.rnc_model.specs.declared.character.Character.{Character}
use Rattle.rnc_model.specs.declared.character.Character.TheVariants.{LineEnd, Ordinary}
use Rattle.rnc_text.specs.declared.scanning.Class.{Class}
use Rattle.rnc_text.specs.declared.scanning.Class.TheVariants as classes

-- all of the characters are of the class
abbrev pub AllIn : Class → List Character → Type 0
AllIn class cs = list_all (is_in class) cs ≡ true

cut_at : (class : Class) (c : Character) (cs : List Character) (b : Bool) → is_in class c ≡ b → front class cs ++ after class cs ≡ cs
    → front class (c ∷ cs) ++ after class (c ∷ cs) ≡ c ∷ cs
unfolding front after
cut_at class c cs true e h = rw e (ap (λ (x : List Character). c ∷ x) h)
cut_at class c cs false e h = rw e refl

cut_none : (class : Class) → front class [] ++ after class [] ≡ []
unfolding front after
cut_none class = refl

pub cut_whole : (class : Class) (cs : List Character) → front class cs ++ after class cs ≡ cs
cut_whole class [] = cut_none class
cut_whole class (c ∷ cs) = cut_at class c cs (is_in class c) refl (cut_whole class cs)

all_none : (class : Class) → AllIn class (front class [])
unfolding front
all_none class = refl

all_at : (class : Class) (c : Character) (cs : List Character) (b : Bool) → is_in class c ≡ b → AllIn class (front class cs)
    → AllIn class (front class (c ∷ cs))
unfolding front
all_at class c cs true e h = rw (e, e) h
all_at class c cs false e h = rw e refl

pub front_all : (class : Class) (cs : List Character) → AllIn class (front class cs)
front_all class [] = all_none class
front_all class (c ∷ cs) = all_at class c cs (is_in class c) refl (front_all class cs)

pub front_in : (class : Class) (c : Character) (cs : List Character) → is_in class c ≡ true → front class (c ∷ cs) ≡ c ∷ front class cs
unfolding front
front_in class c cs e = rw e refl

pub after_in : (class : Class) (c : Character) (cs : List Character) → is_in class c ≡ true → after class (c ∷ cs) ≡ after class cs
unfolding after
after_in class c cs e = rw e refl

pub front_out : (class : Class) (c : Character) (cs : List Character) → is_in class c ≡ false → front class (c ∷ cs) ≡ []
unfolding front
front_out class c cs e = rw e refl

pub after_out : (class : Class) (c : Character) (cs : List Character) → is_in class c ≡ false → after class (c ∷ cs) ≡ c ∷ cs
unfolding after
after_out class c cs e = rw e refl

-- the front of a list that begins with characters of the class
pub front_append : (class : Class) (w rest : List Character) → AllIn class w → front class (w ++ rest) ≡ w ++ front class rest
front_append class [] rest h = refl
front_append class (c ∷ w) rest h = let p = and_parts (is_in class c) (list_all (is_in class) w) h in front_in class c (w ++ rest) p.0
    ∙ ap (λ (x : List Character). c ∷ x) (front_append class w rest p.1)

pub after_append : (class : Class) (w rest : List Character) → AllIn class w → after class (w ++ rest) ≡ after class rest
after_append class [] rest h = refl
after_append class (c ∷ w) rest h = let p = and_parts (is_in class c) (list_all (is_in class) w) h in after_in class c (w ++ rest) p.0
    ∙ after_append class w rest p.1

-- ---- NCNames

name_part : (c : ℕ) (cs : List Character) → list_all (λ d. is_name_char d && not (is_colon d)) (numbers_of cs) ≡ true → AllIn classes.Ncname cs
name_part c [] h = refl
name_part c (LineEnd ∷ cs) h = absurd (false≢true h)
name_part c (Ordinary d ∷ cs) h = let p = and_parts (is_ncname_number d) (list_all (λ d. is_name_char d && not (is_colon d)) (numbers_of cs)) h in
    rw p.0 (name_part c cs p.1)

numbers_part : (cs : List Character) → AllIn classes.Ncname cs → list_all (λ d. is_name_char d && not (is_colon d)) (numbers_of cs) ≡ true
numbers_part [] h = refl
numbers_part (LineEnd ∷ cs) h = absurd (false≢true h)
numbers_part (Ordinary d ∷ cs) h = let p = and_parts (is_ncname_number d) (list_all (is_in classes.Ncname) cs) h in rw p.0 (numbers_part cs p.1)

-- an NCName, by its characters
pub record Name (name : List Character) : Type 0 where
  pub first : ℕ
  pub more : List Character
  pub is : name ≡ Ordinary first ∷ more
  pub starts : starts_ncname first ≡ true
  pub goes_on : list_all (is_in classes.Ncname) more ≡ true

pub name_of : (name : List Character) → IsNcname name → Name name
name_of [] h = absurd (false≢true h)
name_of (LineEnd ∷ cs) h = absurd (false≢true h)
name_of (Ordinary c ∷ cs) h = let p = and_parts (starts_ncname c) (list_all (λ d. is_name_char d && not (is_colon d)) (numbers_of cs)) h in
    record { first = c; more = cs; is = refl; starts = p.0; goes_on = name_part c cs p.1 }

pub is_name : (c : ℕ) (cs : List Character) → starts_ncname c ≡ true → AllIn classes.Ncname cs → IsNcname (Ordinary c ∷ cs)
is_name c cs e h = rw (e, numbers_part cs h) refl

pub first_in : (c : ℕ) → starts_ncname c ≡ true → is_in classes.Ncname (Ordinary c) ≡ true
first_in c e = let p = and_parts (is_name_start c) (not (is_colon c)) e in rw (p.0, p.1) refl

pub name_all : (name : List Character) → IsNcname name → AllIn classes.Ncname name
name_all name h = let n = name_of name h in subst (AllIn classes.Ncname) (sym n.is) (rw (first_in n.first n.starts) n.goes_on)

-- where an NCName begins, the front of name characters is one
pub front_name : (cs : List Character) → begins_ncname cs ≡ true → IsNcname (front classes.Ncname cs)
front_name [] e = absurd (false≢true e)
front_name (LineEnd ∷ cs) e = absurd (false≢true e)
front_name (Ordinary c ∷ cs) e =
    subst IsNcname (sym (front_in classes.Ncname (Ordinary c) cs (first_in c e))) (is_name c (front classes.Ncname cs) e (front_all classes.Ncname cs))

pub name_begins : (name rest : List Character) → IsNcname name → begins_ncname (name ++ rest) ≡ true
name_begins name rest h = let n = name_of name h in subst (λ (x : List Character). begins_ncname (x ++ rest) ≡ true) (sym n.is) n.starts
