-- What stands at a place of a table that holds lawful codes.
use Rattle.std.proofs.Common.{◌≡◌, ℕ, zero, suc, ◌+◌, ◌<◌, ◌≤◌, List, [], ◌∷◌, length, take, get_or, slice_get, Some, subst, sym, arith}
use Rattle.std.specs.List.{All}
use Rattle.std.proofs.lemmas.List.Elements.{All-head, All-tail, All-weaker, All-more}
use Rattle.tdl_stack.specs.declared.instr.Code.{Code}
use Rattle.tdl_image.specs.declared.hosted.Hosted.{Hosted}
use Rattle.tdl_image.specs.declared.hosted.CallEntry.{CallEntry}
use Rattle.tdl_image.specs.declared.hosted.Driver.{Driver}
use Rattle.tdl_host.specs.CheckedCodes.{IsCheckedCode, IsCheckedCall, HasCheckedCodes, HasRoom}

-- what holds of all items holds of one
pub all-at : {A : Type 0} (P : A → Type 0) (xs : List A) (k : ℕ) (x : A) → All P xs → slice_get xs k ≡ Some x → P x
all-at P [] k x h e = absurd cc
all-at P (y ∷ ys) zero x h e = let same : y ≡ x = cc in subst P same (All-head P y ys h)
all-at P (y ∷ ys) (suc k) x h e = all-at P ys k x (All-tail P y ys h) e

-- the arguments of a call
pub checked_call : (h : Hosted) (k : ℕ) (call : CallEntry) → HasCheckedCodes h → slice_get h.calls k ≡ Some call →
    IsCheckedCall h.tasks call
checked_call h k call codes e = all-at (IsCheckedCall h.tasks) h.calls k call codes.calls e

-- the numbers of all calls have room
pub room_for : (h : Hosted) (n k : ℕ) (call : CallEntry) → HasRoom h n → slice_get h.calls k ≡ Some call →
    length call.args ≤ n
room_for h n k call room e = all-at (λ (c : CallEntry). length c.args ≤ n) h.calls k call room e

-- as much as the calls of the tables have room
pub room-of : (h h' : Hosted) (calls : List CallEntry) (n m : ℕ) → h' ≡ h → calls ≡ h.calls →
    All (λ (c : CallEntry). length c.args ≤ n) calls → m ≡ n → HasRoom h' m
room-of h h' calls n m e ec all em =
    subst (λ (z : Hosted). HasRoom z m) (sym e)
    (subst (λ k. HasRoom h k) (sym em)
    (subst (λ (cs : List CallEntry). All (λ (c : CallEntry). length c.args ≤ n) cs) ec all))

-- one more call
pub more-room : (calls : List CallEntry) (i most more : ℕ) (call : CallEntry) → i < length calls →
    call ≡ get_or calls i call → All (λ (c : CallEntry). length c.args ≤ most) (take i calls) → most ≤ more →
    length call.args ≤ more → All (λ (c : CallEntry). length c.args ≤ more) (take (i + 1) calls)
more-room calls i most more call lt is all le room =
    All-more (λ (c : CallEntry). length c.args ≤ more) calls i call lt
    (All-weaker (λ (c : CallEntry). length c.args ≤ most) (λ (c : CallEntry). length c.args ≤ more)
    (λ c le'. omega arith) (take i calls) all)
    (subst (λ (c : CallEntry). length c.args ≤ more) is room)

-- a guard
pub checked_guard : (h : Hosted) (k : ℕ) (code : Code) → HasCheckedCodes h → slice_get h.guards k ≡ Some code →
    IsCheckedCode code
checked_guard h k code codes e = all-at IsCheckedCode h.guards k code codes.guards e

-- the number of a driver
pub checked_driver : (h : Hosted) (k : ℕ) (d : Driver) → HasCheckedCodes h → slice_get h.drivers k ≡ Some d →
    IsCheckedCode d.value
checked_driver h k d codes e = all-at (λ (driver : Driver). IsCheckedCode driver.value) h.drivers k d codes.drivers e
