use Rattle.type_checker.proofs.Carrying.{typed_so, faulty_so}
use Rattle.type_checker.proofs.Each.{put_so}
use Rattle.type_checker.proofs.finishing.put_type.Goals as goal

pub returns-in-Err : goal.returns-in-Err
returns-in-Err c = λ env K after x g n. faulty_so env K after x c.in-Err.is g n

pub returns : goal.returns
returns c = λ env K after x g.
    let t = typed_so env K after x c.in-Ok.is g in
    (t.0, put_so env K _ _ _ t.1 c.in_ok-push.ensures.items)
