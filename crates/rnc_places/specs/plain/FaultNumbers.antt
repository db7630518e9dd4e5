-- The number of the token at which declarations and prefixes break a rule, found token by token.
use Rattle.std.specs.Prelude.{ℕ, zero, suc, ◌+◌, ◌-◌, Bool, true, false, List, [], ◌∷◌, length, Option, Some, None, option_map, is_none, if◌then◌else◌}
use Rattle.rnc_model.specs.declarations.DeclarationRules.{Declarable, namespace_prefix, datatype_prefix, default_namespace}
use Rattle.rnc_model.specs.declarations.Declarations.{Scope, declare, library_in, namespace_in}
use Rattle.rnc_model.specs.declared.token.Keyword.TheVariants as keywords
use Rattle.rnc_model.specs.declared.token.Sign.TheVariants.{CloseBracket, Equal, OpenBrace, OpenBracket, Tilde}
use Rattle.rnc_model.specs.grammar.NameClasses.{word_of}
use Rattle.rnc_model.specs.grammar.Syntax.{Declaration}
use Rattle.rnc_model.specs.tokens.Cut.{Lexeme, cname, keyword, ns_name, sign}
use Rattle.rnc_places.specs.declared.prefixes.Part.{Part}
use Rattle.rnc_places.specs.declared.prefixes.Part.TheVariants.{Body, Class, Inherit, Prefix}

-- ---- prefixes

-- how many annotations are open after a token
abbrev pub depth_after : ℕ → Lexeme → ℕ
depth_after d (sign OpenBracket) = suc d
depth_after d (sign CloseBracket) = d - 1
depth_after d _ = d

-- where the token after this one is, outside an annotation
abbrev pub part_after : Part → Lexeme → Part
part_after Body (keyword keywords.Element s) = Class
part_after Body (keyword keywords.Attribute s) = Class
part_after Body (keyword keywords.Inherit s) = Inherit
part_after Body _ = Body
part_after Class (sign OpenBrace) = Body
part_after Class (sign Equal) = Body
part_after Class _ = Class
part_after Inherit (sign Equal) = Prefix
part_after Inherit _ = Body
part_after Prefix _ = Body

-- the prefix of a token outside an annotation
abbrev pub prefix_of : Part → Lexeme → Option Declarable
prefix_of Body (cname p l) = Some (datatype_prefix p)
prefix_of Body _ = None
prefix_of Class (cname p l) = Some (namespace_prefix p)
prefix_of Class (ns_name p) = Some (namespace_prefix p)
prefix_of Class _ = None
prefix_of Inherit _ = None
prefix_of Prefix x = option_map namespace_prefix (word_of x)

-- the same where so many annotations are open: nothing in them counts
abbrev pub part_at : ℕ → Part → Lexeme → Part
part_at zero a x = part_after a x
part_at (suc d) a x = a

abbrev pub prefix_at : ℕ → Part → Lexeme → Option Declarable
prefix_at zero a x = prefix_of a x
prefix_at (suc d) a x = None

-- the prefix of each token
abbrev pub marks : ℕ → Part → List Lexeme → List (Option Declarable)
marks d a [] = []
marks d a (x ∷ ts) = prefix_at d a x ∷ marks (depth_after d x) (part_at d a x) ts

-- the first token, and the tokens after it
abbrev pub first_of : List Lexeme → Option (Lexeme × List Lexeme)
first_of [] = None
first_of (x ∷ ts) = Some (x, ts)

-- a prefix has no uri
abbrev pub is_unknown : Scope → Option Declarable → Bool
is_unknown s None = false
is_unknown s (Some (namespace_prefix p)) = is_none (namespace_in s p)
is_unknown s (Some (datatype_prefix p)) = is_none (library_in s p)
is_unknown s (Some default_namespace) = false

-- the number, from 1, of the first prefix that has no uri, or one more than there are
abbrev pub unknown_number : Scope → List (Option Declarable) → ℕ
unknown_number s [] = 1
unknown_number s (m ∷ ms) = if is_unknown s m then 1 else suc (unknown_number s ms)

-- ---- declarations

abbrev pub is_equal : Lexeme → Bool
is_equal (sign Equal) = true
is_equal _ = false

abbrev pub is_tilde : Lexeme → Bool
is_tilde (sign Tilde) = true
is_tilde _ = false

-- the tokens after the first one
abbrev pub behind_first : List Lexeme → List Lexeme
behind_first [] = []
behind_first (x ∷ ts) = ts

-- the tokens after the first one, if it is not `=`
abbrev pub other_front : List Lexeme → Option (List Lexeme)
other_front [] = None
other_front (x ∷ ts) = if is_equal x then None else Some ts

-- the tokens from the first `=` on
abbrev pub from_equal : List Lexeme → List Lexeme
from_equal [] = []
from_equal (x ∷ ts) = if is_equal x then x ∷ ts else from_equal ts

-- the tokens after the first `=`
abbrev pub behind_equal : List Lexeme → List Lexeme
behind_equal ts = behind_first (from_equal ts)

-- the tokens after the first one, if it is `~`
abbrev pub tilde_front : List Lexeme → Option (List Lexeme)
tilde_front [] = None
tilde_front (x ∷ ts) = if is_tilde x then Some ts else None

-- the tokens after each `~` at the front and the token behind it
abbrev pub behind_tildes : List Lexeme → List Lexeme
behind_tildes [] = []
behind_tildes (x ∷ []) = if is_tilde x then [] else x ∷ []
behind_tildes (x ∷ y ∷ ts) = if is_tilde x then behind_tildes ts else x ∷ y ∷ ts

-- the tokens after a value: one token, and each `~` that follows and the token behind it
abbrev pub behind_value : List Lexeme → List Lexeme
behind_value ts = behind_tildes (behind_first ts)

-- the tokens after a declaration
abbrev pub behind_declaration : List Lexeme → List Lexeme
behind_declaration ts = behind_value (behind_equal ts)

-- one of two values
abbrev pub unless_applied : Option Scope → ℕ → (Scope → ℕ) → ℕ
unless_applied None n f = n
unless_applied (Some s) n f = f s

-- the number of the token, if these are the last of so many tokens, with these declarations at their front
abbrev pub fault_number : ℕ → Scope → List Declaration → List Lexeme → ℕ
fault_number total s [] ts = (total - length ts) + unknown_number s (marks 0 Body ts)
fault_number total s (d ∷ ds) ts = unless_applied (declare s d) ((total - length ts) + 1) (λ t. fault_number total t ds (behind_declaration ts))
