use Rattle.http_service.specs.Routes.{route_stated}
use Rattle.http_service.proofs.Noted.{rerouted, unrouted}
use Rattle.http_service.proofs.handlers.answer.Goals as goal

pub returns-in-Ok-clause-reply : goal.returns-in-Ok-clause-reply
returns-in-Ok-clause-reply c =
    rerouted c.args.site.now _ _ _ _ _ _ c.in-Ok.ensures.route c.answer_route.ensures.reply

pub returns-clause-reply : goal.returns-clause-reply
returns-clause-reply c =
    unrouted c.args.site.now (route_stated c.args.method.now c.args.target.now c.args.body.now) _ _ _
    c.in-Err.ensures.memory c.report_fault.ensures.status c.report_fault.ensures.body
