-- The forms of an expression in steps, with a list of what is left to do.
use Rattle.std.specs.Prelude.{◌-◌, List, [], ◌∷◌, ◌++◌, if◌then◌else◌}
use Rattle.rng_model.specs.regexes.Expressions.{Regex, nothing_more, one_of, both, either, times}
use Rattle.rng_model.specs.regexes.plain.LinearForms.{RegexState, Form, is_nullable, one_less, is_none_left, forms_of}

-- an expression, and what has to match behind it
abbrev pub Work : Type 0
Work = Regex × RegexState

-- the form that the expression has itself
abbrev pub own_form : Regex → RegexState → List Form
own_form nothing_more k = []
own_form (one_of c) k = (c, k) ∷ []
own_form (both a b) k = []
own_form (either a b) k = []
own_form (times n m a) k = []

-- the parts of the expression that have the others
abbrev pub work_of : Regex → RegexState → List Work
work_of nothing_more k = []
work_of (one_of c) k = []
work_of (both a b) k = (a, b ∷ k) ∷ (if is_nullable a then (b, k) ∷ [] else [])
work_of (either a b) k = (a, k) ∷ (b, k) ∷ []
work_of (times n m a) k = if is_none_left m then [] else (a, times (n - 1) (one_less m) a ∷ k) ∷ []

abbrev pub forms_left : List Work → List Form
forms_left [] = []
forms_left (w ∷ ws) = forms_of w.0 w.1 ++ forms_left ws
