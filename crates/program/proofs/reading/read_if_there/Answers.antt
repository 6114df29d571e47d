use Rattle.std.specs.Process.{exit_status}
use Rattle.program.specs.declared.device.FileFault.TheVariants.{Failed, NoMemory}
use Rattle.program.proofs.EventLemmas.{unread_as, failed_there, memory_there}
use Rattle.program.proofs.reading.read_if_there.Goals as goal

pub returns-in-Err-Failed : goal.returns-in-Err-Failed
returns-in-Err-Failed g c =
    unread_as g.H.Host.does _ _ _ c.args.name.now c.in-Err-Failed.field-0 Failed (exit_status c.report_file.result) c.in-Err-Failed.field-0-is
    failed_there c.in-Err-Failed.ensures c.report_file.ensures

pub returns-in-Err-NoMemory : goal.returns-in-Err-NoMemory
returns-in-Err-NoMemory g c =
    unread_as g.H.Host.does _ _ _ c.args.name.now c.in-Err-NoMemory.field-0 NoMemory (exit_status c.report_file-in-Err-NoMemory.result)
    c.in-Err-NoMemory.field-0-is memory_there c.in-Err-NoMemory.ensures c.report_file-in-Err-NoMemory.ensures
