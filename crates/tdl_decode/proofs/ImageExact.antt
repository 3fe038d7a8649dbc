-- Stubs and images are read exactly.
use Rattle.std.proofs.Common.{ℕ, ◌++◌, refl, sym, ap, ◌∙◌, arith}
use Rattle.tdl_base.specs.Bytes.{short, word}
use Rattle.tdl_image.specs.Spelling.{string, short_list, long_list, initial_bytes, block_bytes, stub_task_bytes, receive_bytes, hosted_bytes, stub_bytes}
use Rattle.tdl_decode.specs.Grammar.{ascending}
use Rattle.tdl_decode.specs.BundleGrammar.{stub_task, receive, stub, hosted, image}
use Rattle.tdl_decode.specs.Reading.{ascending_in}
use Rattle.tdl_decode.specs.BundleReading.{stub_task_in, receive_in, stub_in, hosted_in, image_in}
use Rattle.tdl_decode.proofs.Exact.{Exact, faults_then, faults_none, sound_then, again_then}
use Rattle.tdl_decode.proofs.NumberFields.{short-exact, any_short-exact, any_word-exact, fits_short, short_fits, fits_word, word_fits, seq3, seq4, seq5}
use Rattle.tdl_decode.proofs.LongExact.{string-exact}
use Rattle.tdl_decode.proofs.ListedExact.{listed-exact, long_listed-exact}
use Rattle.tdl_decode.proofs.CodesExact.{block-exact}
use Rattle.tdl_decode.proofs.AscendingExact.{ascending-exact}
use Rattle.tdl_decode.proofs.TablesExact.{initial-exact}
use Rattle.tdl_decode.proofs.HostedExact.{hosted-exact}

-- a task of a stub whose number is at least so much
pub stub_task-exact : (least : ℕ) → Exact (stub_task least) (stub_task_in least)
unfolding stub_task_in
stub_task-exact least = record {
  sound = λ bytes small.
      sound_then (stub_task least) (λ b. b) _ (short-exact 4 least 65535 (omega arith)) (λ number m0 p0 s0.
      sound_then (stub_task least) (λ b. short number ++ b) _ string-exact (λ name m1 p1 s1.
      sound_then (stub_task least) (λ b. short number ++ (string name ++ b)) _ (listed-exact initial-exact) (λ outputs m2 p2 s2.
      record { lawful = (record { number = fits_short (omega arith, p0.1); name = p1; output_count = p2.0; outputs = p2.1 }, p0.0); front = seq3 (short number) (string name) (short_list initial_bytes outputs) m2 }
      ) m1 s1) m0 s0) bytes small;
  again = λ x rest p.
      ap (stub_task_in least) (sym (seq3 (short x.number) (string x.name) (short_list initial_bytes x.outputs) rest))
      ∙ again_then _ (short-exact 4 least 65535 (omega arith)) x.number _ (p.1, (short_fits p.0.number).1)
      ∙ again_then _ string-exact x.name _ (p.0.name)
      ∙ again_then _ (listed-exact initial-exact) x.outputs rest ((p.0.output_count, p.0.outputs));
  faults = λ bytes small.
      faults_then (short-exact 4 least 65535 (omega arith)) (λ number b s. faults_then string-exact (λ name b s. faults_then (listed-exact initial-exact) (λ outputs b s. faults_none _ b) b s) b s) bytes small;
}

-- a stub's tasks
pub stub_tasks-exact : Exact (ascending stub_task (λ x. x.number)) (ascending_in stub_task_in (λ x. x.number))
stub_tasks-exact =
    ascending-exact (record {
      spelled = λ least. refl;
      above = λ least x p. ((p.0, omega arith), p.1);
      from = λ least x p low. (p.0, low);
    }) stub_task-exact

-- a receive entry
pub receive-exact : Exact receive receive_in
unfolding receive_in
receive-exact = record {
  sound = λ bytes small.
      sound_then receive (λ b. b) _ any_short-exact (λ mode m0 p0 s0.
      sound_then receive (λ b. short mode ++ b) _ any_short-exact (λ invocation m1 p1 s1.
      sound_then receive (λ b. short mode ++ (short invocation ++ b)) _ any_short-exact (λ task m2 p2 s2.
      sound_then receive (λ b. short mode ++ (short invocation ++ (short task ++ b))) _ any_word-exact (λ delta m3 p3 s3.
      sound_then receive (λ b. short mode ++ (short invocation ++ (short task ++ (word delta ++ b)))) _ any_word-exact (λ block m4 p4 s4.
      record { lawful = record { mode = fits_short p0; invocation = fits_short p1; task = fits_short p2; delta = fits_word p3; block = fits_word p4 }; front = seq5 (short mode) (short invocation) (short task) (word delta) (word block) m4 }
      ) m3 s3) m2 s2) m1 s1) m0 s0) bytes small;
  again = λ x rest p.
      ap receive_in (sym (seq5 (short x.mode) (short x.invocation) (short x.task) (word x.delta) (word x.block) rest))
      ∙ again_then _ any_short-exact x.mode _ (short_fits p.mode)
      ∙ again_then _ any_short-exact x.invocation _ (short_fits p.invocation)
      ∙ again_then _ any_short-exact x.task _ (short_fits p.task)
      ∙ again_then _ any_word-exact x.delta _ (word_fits p.delta)
      ∙ again_then _ any_word-exact x.block rest (word_fits p.block);
  faults = λ bytes small.
      faults_then any_short-exact (λ mode b s. faults_then any_short-exact (λ invocation b s. faults_then any_short-exact (λ task b s. faults_then any_word-exact (λ delta b s. faults_then any_word-exact (λ block b s. faults_none _ b) b s) b s) b s) b s) bytes small;
}

-- a stub whose number is at least so much
pub stub-exact : (least : ℕ) → Exact (stub least) (stub_in least)
unfolding stub_in
stub-exact least = record {
  sound = λ bytes small.
      sound_then (stub least) (λ b. b) _ (short-exact 4 least 65535 (omega arith)) (λ number m0 p0 s0.
      sound_then (stub least) (λ b. short number ++ b) _ string-exact (λ name m1 p1 s1.
      sound_then (stub least) (λ b. short number ++ (string name ++ b)) _ stub_tasks-exact (λ tasks m2 p2 s2.
      sound_then (stub least) (λ b. short number ++ (string name ++ (short_list stub_task_bytes tasks ++ b))) _ (listed-exact receive-exact) (λ entries m3 p3 s3.
      sound_then (stub least) (λ b. short number ++ (string name ++ (short_list stub_task_bytes tasks ++ (short_list receive_bytes entries ++ b)))) _ (long_listed-exact block-exact) (λ blocks m4 p4 s4.
      record { lawful = (record { number = fits_short (omega arith, p0.1); name = p1; task_count = p2.0; tasks = λ k d within. (p2.1 k d within).0; task_order = p2.2; entry_count = p3.0; entries = p3.1; block_count = p4.0; blocks = p4.1 }, p0.0); front = seq5 (short number) (string name) (short_list stub_task_bytes tasks) (short_list receive_bytes entries) (long_list block_bytes blocks) m4 }
      ) m3 s3) m2 s2) m1 s1) m0 s0) bytes small;
  again = λ x rest p.
      ap (stub_in least) (sym (seq5 (short x.number.0) (string x.name) (short_list stub_task_bytes x.tasks) (short_list receive_bytes x.entries) (long_list block_bytes x.blocks) rest))
      ∙ again_then _ (short-exact 4 least 65535 (omega arith)) x.number.0 _ (p.1, (short_fits p.0.number).1)
      ∙ again_then _ string-exact x.name _ (p.0.name)
      ∙ again_then _ stub_tasks-exact x.tasks _ (p.0.task_count, (λ k d within. (p.0.tasks k d within, omega arith)), p.0.task_order)
      ∙ again_then _ (listed-exact receive-exact) x.entries _ ((p.0.entry_count, p.0.entries))
      ∙ again_then _ (long_listed-exact block-exact) x.blocks rest ((p.0.block_count, p.0.blocks));
  faults = λ bytes small.
      faults_then (short-exact 4 least 65535 (omega arith)) (λ number b s. faults_then string-exact (λ name b s. faults_then stub_tasks-exact (λ tasks b s. faults_then (listed-exact receive-exact) (λ entries b s. faults_then (long_listed-exact block-exact) (λ blocks b s. faults_none _ b) b s) b s) b s) b s) bytes small;
}

-- the hosted modules of an image
pub hosted_list-exact : Exact (ascending hosted (λ x. x.number.0)) (ascending_in hosted_in (λ x. x.number.0))
hosted_list-exact =
    ascending-exact (record {
      spelled = λ least. refl;
      above = λ least x p. ((p.0, omega arith), p.1);
      from = λ least x p low. (p.0, low);
    }) hosted-exact

-- its stubs
pub stub_list-exact : Exact (ascending stub (λ x. x.number.0)) (ascending_in stub_in (λ x. x.number.0))
stub_list-exact =
    ascending-exact (record {
      spelled = λ least. refl;
      above = λ least x p. ((p.0, omega arith), p.1);
      from = λ least x p low. (p.0, low);
    }) stub-exact

-- an image
pub image-exact : Exact image image_in
unfolding image_in
image-exact = record {
  sound = λ bytes small.
      sound_then image (λ b. b) _ string-exact (λ node m0 p0 s0.
      sound_then image (λ b. string node ++ b) _ any_word-exact (λ declared m1 p1 s1.
      sound_then image (λ b. string node ++ (word declared ++ b)) _ hosted_list-exact (λ hosts m2 p2 s2.
      sound_then image (λ b. string node ++ (word declared ++ (short_list hosted_bytes hosts ++ b))) _ stub_list-exact (λ stubs m3 p3 s3.
      record { lawful = record { node = p0; declared = fits_word p1; hosted_count = p2.0; hosted = λ k d within. (p2.1 k d within).0; hosted_order = p2.2; stub_count = p3.0; stubs = λ k d within. (p3.1 k d within).0; stub_order = p3.2 }; front = seq4 (string node) (word declared) (short_list hosted_bytes hosts) (short_list stub_bytes stubs) m3 }
      ) m2 s2) m1 s1) m0 s0) bytes small;
  again = λ x rest p.
      ap image_in (sym (seq4 (string x.node) (word x.declared) (short_list hosted_bytes x.hosted) (short_list stub_bytes x.stubs) rest))
      ∙ again_then _ string-exact x.node _ (p.node)
      ∙ again_then _ any_word-exact x.declared _ (word_fits p.declared)
      ∙ again_then _ hosted_list-exact x.hosted _ (p.hosted_count, (λ k d within. (p.hosted k d within, omega arith)), p.hosted_order)
      ∙ again_then _ stub_list-exact x.stubs rest (p.stub_count, (λ k d within. (p.stubs k d within, omega arith)), p.stub_order);
  faults = λ bytes small.
      faults_then string-exact (λ node b s. faults_then any_word-exact (λ declared b s. faults_then hosted_list-exact (λ hosted b s. faults_then stub_list-exact (λ stubs b s. faults_none _ b) b s) b s) b s) bytes small;
}
