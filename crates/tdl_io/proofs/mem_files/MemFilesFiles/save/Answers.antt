use Rattle.tdl_io.proofs.mem_files.MemFilesFiles.save.Goals as goal

pub returns-then-fails-clause-others : goal.returns-then-fails-clause-others
returns-then-fails-clause-others c = rw (← c.self.view_is) c.in_ok-add_call.ensures.others
