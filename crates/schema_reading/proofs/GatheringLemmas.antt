-- Reading each of a list behind those that were read, as a loop does.
use Rattle.std.proofs.Common.{◌≡◌, ℕ, ◌+◌, ◌<◌, List, [], ◌∷◌, ◌++◌, map, length, take, get_or, Result, Ok, Err, subst}
use Rattle.json_words.specs.ReadsAs.{Fails, ReadsAs}
use Rattle.json_words.specs.Each.{each}
use Rattle.json_words.proofs.EachLemmas.{each_next, each_fails}
use Rattle.json_words.proofs.EachSame.{viewed_next, same_fails}
use Rattle.schema_types.specs.declared.fault.SchemaFault.{SchemaFault}
use Rattle.schema_types.specs.declared.fault.SchemaFault.TheVariants.{NoMemory}

-- one was read, and stands behind the others
abbrev pub Follows : {Y : Type 0} → List Y → Result Y SchemaFault → List Y → Type 0
Follows {Y = Y} ys read more = (y : Y) × (read ≡ Ok y) × (more ≡ ys ++ y ∷ [])

read_as : {Y B : Type 0} (out : Y → B) (read : Result Y SchemaFault) (y : Y) (r : Result B SchemaFault) → read ≡ Ok y → ReadsAs NoMemory out read r → r ≡ Ok (out y)
read_as {Y = Y} out read y r is h = subst (λ (q : Result Y SchemaFault). ReadsAs NoMemory out q r) is h

fails_as : {Y B : Type 0} (out : Y → B) (read : Result Y SchemaFault) (e : SchemaFault) (r : Result B SchemaFault) → ((e ≡ NoMemory → ⊥) → read ≡ Err e) → ReadsAs NoMemory out read r → Fails NoMemory e r
fails_as {Y = Y} out read e r is h other = subst (λ (q : Result Y SchemaFault). ReadsAs NoMemory out q r) (is other) h other

pub one_more : {X A Y B : Type 0} (see : X → A) (out : Y → B) (f : ℕ → A → Result B SchemaFault) (vs : List X) (i : ℕ) (v : X) (ys : List Y) (read : Result Y SchemaFault) (more : List Y)
    → i < length vs → v ≡ get_or vs i v → each f 0 (map see (take i vs)) ≡ Ok (map out ys) → ReadsAs NoMemory out read (f i (see v)) → Follows ys read more
    → each f 0 (map see (take (i + 1) vs)) ≡ Ok (map out more)
one_more see out f vs i v ys read more lt at so_far reads (y, is, grown) =
    rw grown (viewed_next see out f vs i v ys y lt at so_far (read_as out read y (f i (see v)) is reads))

pub none_more : {X A Y B : Type 0} (see : X → A) (out : Y → B) (f : ℕ → A → Result B SchemaFault) (vs : List X) (i : ℕ) (v : X) (ys : List Y) (read : Result Y SchemaFault) (e : SchemaFault)
    → i < length vs → v ≡ get_or vs i v → each f 0 (map see (take i vs)) ≡ Ok (map out ys) → ReadsAs NoMemory out read (f i (see v)) → ((e ≡ NoMemory → ⊥) → read ≡ Err e)
    → Fails NoMemory e (each f 0 (map see vs))
none_more see out f vs i v ys read e lt at so_far reads refused =
    each_fails see f vs i v (map out ys) NoMemory e lt at so_far (fails_as out read e (f i (see v)) refused reads)

-- the same of lists that contracts see as they are
pub one_more_same : {A B : Type 0} (f : ℕ → A → Result B SchemaFault) (vs : List A) (i : ℕ) (v : A) (ys : List B) (read : Result B SchemaFault) (more : List B)
    → i < length vs → v ≡ get_or vs i v → each f 0 (map (λ x. x) (take i vs)) ≡ Ok ys → ReadsAs NoMemory (λ y. y) read (f i v) → Follows ys read more
    → each f 0 (map (λ x. x) (take (i + 1) vs)) ≡ Ok more
one_more_same f vs i v ys read more lt at so_far reads (y, is, grown) =
    rw grown (each_next (λ x. x) f vs i v ys y lt at so_far (read_as (λ z. z) read y (f i v) is reads))

pub none_more_same : {A B : Type 0} (f : ℕ → A → Result B SchemaFault) (vs : List A) (i : ℕ) (v : A) (ys : List B) (read : Result B SchemaFault) (e : SchemaFault)
    → i < length vs → v ≡ get_or vs i v → each f 0 (map (λ x. x) (take i vs)) ≡ Ok ys → ReadsAs NoMemory (λ y. y) read (f i v) → ((e ≡ NoMemory → ⊥) → read ≡ Err e)
    → Fails NoMemory e (each f 0 vs)
none_more_same f vs i v ys read e lt at so_far reads refused =
    same_fails f vs i v ys NoMemory e lt at so_far (fails_as (λ z. z) read e (f i v) refused reads)
