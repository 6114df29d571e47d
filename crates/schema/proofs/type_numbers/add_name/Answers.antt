use Rattle.std.proofs.Common.{refl, rules}
use Rattle.std.specs.Prelude.{⊤}
use Rattle.std.proofs.lemmas.Result.{on_ok_weaker}
use Rattle.std.specs.BTreeMap.{get}
use Rattle.values.specs.Names.{uid_cmp, text_cmp-IsAntisymmetric}
use Rattle.schema.specs.inner.Numbering.{NameMay, NameMust}
use Rattle.schema.proofs.FillingLemmas.{adds_entry}
use Rattle.schema.proofs.NumberLemmas.{no_name}
use Rattle.schema.proofs.type_numbers.add_name.Goals as goal

pub returns-in-Some : goal.returns-in-Some
returns-in-Some c =
    let at = get uid_cmp c.args.numbers.now in
    let u = c.args.uid.now in
    on_ok_weaker c.put_name.result
    (λ updates. adds_entry text_cmp-IsAntisymmetric c.args.named.now c.put_name.new.named u.type_name c.in-Some.number.now updates (NameMay at u) (NameMust at u) ⊤ (refl, search rules) (λ k m. m.0) tt)
    c.put_name.ensures

pub returns-in-None : goal.returns-in-None
returns-in-None c = no_name (get uid_cmp c.args.numbers.now) c.args.uid.now c.args.named.now (search rules)
