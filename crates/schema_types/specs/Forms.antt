-- Defines the forms of the JSON of a type, which the word at the key `type` selects, and the keys of each form.
-- Source: Cedar reference guide 4.0, "Schema JSON format".
-- Rules of this product: other keys are rejected.
use Rattle.std.specs.Prelude.{ℕ, List, [], ◌∷◌, Bool, codes, if◌then◌else◌}
use Rattle.std.specs.Str.{bytes_eq}
use Rattle.schema_types.specs.declared.forms.Form.{Form}
use Rattle.schema_types.specs.declared.forms.Form.TheVariants.{Text, Long, Boolean, Set, Record, Entity, Extension}
use Rattle.schema_types.specs.declared.forms.Form.TheVariants.{EntityOrCommon, Common}

-- `form_named w` is the form that the word `w` selects. A word that selects no other form selects `Common`, as the name
-- of a common type.
unfoldable pub form_named : List ℕ → Form
form_named w =
    if bytes_eq w (codes "String") then Text else
    if bytes_eq w (codes "Long") then Long else
    if bytes_eq w (codes "Boolean") then Boolean else
    if bytes_eq w (codes "Bool") then Boolean else
    if bytes_eq w (codes "Set") then Set else
    if bytes_eq w (codes "Record") then Record else
    if bytes_eq w (codes "Entity") then Entity else
    if bytes_eq w (codes "Extension") then Extension else
    if bytes_eq w (codes "EntityOrCommon") then EntityOrCommon else Common

-- `own_keys form` are the keys that JSON of the form `form` may have, except those that JSON of every form may have.
abbrev pub own_keys : Form → List (List ℕ)
own_keys Text = []
own_keys Long = []
own_keys Boolean = []
own_keys Set = codes "element" ∷ []
own_keys Record = codes "attributes" ∷ codes "additionalAttributes" ∷ []
own_keys Entity = codes "name" ∷ []
own_keys Extension = codes "name" ∷ []
own_keys EntityOrCommon = codes "name" ∷ []
own_keys Common = []

-- `keys_of is_attribute form` are all keys that JSON of the form `form` may have; only an attribute (`is_attribute`)
-- may have `required`.
abbrev pub keys_of : Bool → Form → List (List ℕ)
keys_of is_attribute form =
    codes "type" ∷ codes "annotations" ∷ (if is_attribute then codes "required" ∷ own_keys form else own_keys form)
