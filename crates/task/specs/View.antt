-- The contents of a task's record.
use Rattle.records.specs.Contents.{Contents}
use Rattle.records.specs.View.{contents}
use Rattle.task.specs.declared.Task.{Task}

abbrev pub task_contents : Task → Contents
task_contents t = contents t.«record»
