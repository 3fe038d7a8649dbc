-- Files in memory: what they are, and what a load and a save make of them.
use Rattle.std.specs.Prelude.{ℕ, ◌==◌, ◌||◌, ◌&&◌, List, [], ◌∷◌, ◌++◌, map, length, count_by, Bool, true, false, if◌then◌else◌, None, Some, is_none, String, Vec, string_bytes, bytes_eq}
use Rattle.std.specs.List.{list_any}
use Rattle.std.specs.declared.alloc.Global.{Global}
use Rattle.tdl_io.specs.Outside.{raised, Held, Counts}
use Rattle.tdl_io.specs.declared.mem_files.Call.{Call}
use Rattle.tdl_io.specs.declared.mem_files.CallKind.{CallKind}
use Rattle.tdl_io.specs.declared.mem_files.CallKind.TheVariants.{Load, Save}

-- a name's bytes, and the bytes of its file
abbrev pub Entry : Type 0
Entry = List ℕ × List ℕ

-- the entries that are given as texts and vectors
abbrev pub entries_of : List (String Global × Vec ℕ Global) → List Entry
entries_of = map (λ given. (string_bytes given.0, given.1.items))

-- where entries share a name, the earliest counts
abbrev pub held_in : List Entry → Held
held_in [] name = None
held_in (entry ∷ entries) name = if bytes_eq entry.0 name then Some entry.1 else held_in entries name

-- how many of the calls failed
abbrev pub failures : List Call → ℕ
failures calls = count_by (λ call. call.failed) calls

-- whether two kinds of calls are the same
abbrev pub is_kind : CallKind → CallKind → Bool
is_kind Load Load = true
is_kind Load Save = false
is_kind Save Load = false
is_kind Save Save = true

-- for each name how many of its calls of a kind failed
abbrev pub failures_of : CallKind → List Call → Counts
failures_of kind calls name = count_by (λ call. call.failed && is_kind kind call.kind && bytes_eq call.name name) calls

-- the entries, the numbers of the calls that are told to fail, and the calls so far, the first one first
pub record FilesState : Type 0 where
  pub entries : List Entry
  pub fail : List ℕ
  pub calls : List Call

-- the next call is told to fail
abbrev pub is_told_to_fail : FilesState → Bool
is_told_to_fail s = list_any (λ k. k == raised (length s.calls)) s.fail

-- the next call fails as a load of this name: it is told to, or no such name is held
abbrev pub load_fails : FilesState → List ℕ → Bool
load_fails s name = is_told_to_fail s || is_none (held_in s.entries name)

-- the files after one more call, their entries as before
abbrev pub after_call : FilesState → CallKind → List ℕ → Bool → FilesState
after_call s kind name failed =
    record s { calls = s.calls ++ record { kind = kind; name = name; failed = failed } ∷ [] }

-- the files after a load
abbrev pub after_load : FilesState → List ℕ → FilesState
after_load s name = after_call s Load name (load_fails s name)

-- the files after a save: a file that is saved stands before the older ones of its name
abbrev pub after_save : FilesState → List ℕ → List ℕ → FilesState
after_save s name bytes =
    if is_told_to_fail s
    then after_call s Save name true
    else record (after_call s Save name false) { entries = (name, bytes) ∷ s.entries }
