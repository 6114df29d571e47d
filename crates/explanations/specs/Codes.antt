-- Defines which numbers are error codes.
-- Rules of this product: the codes of docs/codes.md, grouped by what is rejected.
use Rattle.std.specs.Prelude.{ℕ, Bool, ◌==◌, nat_lt, if◌then◌else◌, List, [], ◌∷◌}
use Rattle.std.specs.List.{list_any}

-- `codes_of_group c` are the codes of the group that would contain `c`. The groups are errors of any call, or of
-- opening a site; policies that do not parse; schemas; entities and requests; policies that do not pass validation;
-- messages; commands and requests at a site; and HTTP statuses in place of a code.
abbrev pub codes_of_group : ℕ → List ℕ
codes_of_group c =
    if nat_lt c 10 then 1 ∷ 2 ∷ []
    else if nat_lt c 20 then 10 ∷ 11 ∷ 12 ∷ 13 ∷ 14 ∷ 15 ∷ 16 ∷ 17 ∷ 18 ∷ 19 ∷ []
    else if nat_lt c 30 then 20 ∷ 21 ∷ 22 ∷ 23 ∷ 24 ∷ 25 ∷ []
    else if nat_lt c 40 then 30 ∷ 31 ∷ 32 ∷ 33 ∷ 34 ∷ 35 ∷ 36 ∷ 37 ∷ 38 ∷ 39 ∷ []
    else if nat_lt c 50 then 40 ∷ 41 ∷ 42 ∷ 43 ∷ 44 ∷ 45 ∷ 46 ∷ []
    else if nat_lt c 60 then 50 ∷ 51 ∷ 52 ∷ 53 ∷ 54 ∷ 55 ∷ 56 ∷ 57 ∷ []
    else if nat_lt c 100 then 60 ∷ 61 ∷ 62 ∷ 63 ∷ []
    else 400 ∷ 404 ∷ 405 ∷ 411 ∷ 413 ∷ 501 ∷ []

-- `is_code code` tests whether some error has this code.
abbrev pub is_code : ℕ → Bool
is_code code = list_any (λ c. c == code) (codes_of_group code)
