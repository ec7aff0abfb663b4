-- Worked scripts over two ports: each command, and what it prints.
use Rattle.std.specs.Prelude.{◌≡◌, ℕ, List, [], ◌∷◌, ◌++◌, map, codes, Result, Ok, Err}
use Rattle.av_script.specs.declared.command.Command.{Command}
use Rattle.av_script.specs.declared.script.ScriptFault.{ScriptFault}
use Rattle.av_script.specs.Script.{ScriptText, script_of}
use Rattle.av_script.specs.CommandText.{boot_text, command_text, command_world}
use Rattle.av_history.specs.World.{WorldState, start}

-- what each of these commands prints
unfoldable pub each_text : WorldState → List Command → List (List ℕ)
each_text w [] = []
each_text w (c ∷ cs) = command_text w c ∷ each_text (command_world w c) cs

-- the same of a script, its volume line first
abbrev pub texts_of : Result ScriptText ScriptFault → List (List ℕ)
texts_of (Ok s) = boot_text ∷ each_text (start s.number s.mode s.limits) s.commands
texts_of (Err f) = []

-- these lines, one behind the other
abbrev pub lines_as : List (List ℕ × List ℕ) → List ℕ
lines_as [] = []
lines_as (x ∷ xs) = x.0 ++ codes "\n" ++ lines_as xs

-- a script of these lines, behind a head of settings, prints at each what stands beside it
abbrev pub PrintsWith : List ℕ → List (List ℕ × List ℕ) → Type 0
PrintsWith head xs = texts_of (script_of (head ++ lines_as xs)) ≡ map (λ x. x.1) xs

-- the same with no setting
abbrev pub Prints : List (List ℕ × List ℕ) → Type 0
Prints xs = PrintsWith [] xs

-- the question of a lost port is asked on the other, and answered there; a late read of the old one gets nothing
abbrev pub AskedOnTheOther : Type 0
AskedOnTheOther =
    Prints
    (
    (codes "volume 1 closed", codes "boot 1\n")
    ∷ (codes "publish 1 5858", codes "version 1 signatures 1\n")
    ∷ (codes "create a", codes "stream 1 generation 1\n")
    ∷ (codes "write a 0 414243", codes "stream 1 generation 2 length 3\n")
    ∷ (codes "connect", codes "up 1 hello volume 1 version 1\n")
    ∷ (codes "up 1", codes "note Welcome\n")
    ∷ (codes "connect 2", codes "up 2 hello volume 1 version 1 port 2\n")
    ∷ (codes "up 2", codes "note Welcome\n")
    ∷ (codes "open a", codes "open 1 pended\ndown 1 scan 1.1 stream 1 generation 2 length 3\n")
    ∷ (codes "disconnect filter", codes "down 2 scan 1.2 stream 1 generation 2 length 3 port 2\n")
    ∷ (codes "down 2", codes "up 3 read 1.2 offset 0 count 3 port 2\n")
    ∷ (codes "up 3", codes "down 3 chunk 1.2 offset 0 bytes 414243 port 2\n")
    ∷ (codes "down 3", codes "work 1 lent 1.2 offset 0 length 3 port 2\n")
    ∷ (codes "work 1", codes "up 4 reply 1.2 version 1 clean port 2\n")
    ∷ (codes "up 4", codes "open 1 granted stream 1 generation 2 version 1 least 0\n")
    ∷ (codes "down 1", codes "up 5 read 1.1 offset 0 count 3\n")
    ∷ (codes "up 5", codes "down 4 nochunk 1.1 offset 0 cause 1\n")
    ∷ []
    )

-- with no port left the opens are answered, and the next is not connected
abbrev pub NoneLeft : Type 0
NoneLeft =
    Prints
    (
    (codes "volume 1 closed", codes "boot 1\n")
    ∷ (codes "publish 1 5858", codes "version 1 signatures 1\n")
    ∷ (codes "create a", codes "stream 1 generation 1\n")
    ∷ (codes "write a 0 414243", codes "stream 1 generation 2 length 3\n")
    ∷ (codes "connect", codes "up 1 hello volume 1 version 1\n")
    ∷ (codes "up 1", codes "note Welcome\n")
    ∷ (codes "connect 2", codes "up 2 hello volume 1 version 1 port 2\n")
    ∷ (codes "up 2", codes "note Welcome\n")
    ∷ (codes "open a", codes "open 1 pended\ndown 1 scan 1.1 stream 1 generation 2 length 3\n")
    ∷ (codes "disconnect filter 2", [])
    ∷ (codes "disconnect filter", codes "open 1 denied cause 6\n")
    ∷ (codes "open a", codes "open 2 denied cause 3\n")
    ∷ []
    )

-- two opens wait for one question of the lost port, and a third for another: each is answered by what the other service says
abbrev pub TwoWait : Type 0
TwoWait =
    Prints
    (
    (codes "volume 1 closed", codes "boot 1\n")
    ∷ (codes "publish 1 5858", codes "version 1 signatures 1\n")
    ∷ (codes "create a", codes "stream 1 generation 1\n")
    ∷ (codes "write a 0 414243", codes "stream 1 generation 2 length 3\n")
    ∷ (codes "connect", codes "up 1 hello volume 1 version 1\n")
    ∷ (codes "up 1", codes "note Welcome\n")
    ∷ (codes "connect 2", codes "up 2 hello volume 1 version 1 port 2\n")
    ∷ (codes "up 2", codes "note Welcome\n")
    ∷ (codes "create b", codes "stream 2 generation 1\n")
    ∷ (codes "write b 0 5858", codes "stream 2 generation 2 length 2\n")
    ∷ (codes "open a", codes "open 1 pended\ndown 1 scan 1.1 stream 1 generation 2 length 3\n")
    ∷ (codes "open b", codes "open 2 pended\ndown 2 scan 1.2 stream 2 generation 2 length 2\n")
    ∷ (codes "open a", codes "open 3 pended\n")
    ∷ (codes "disconnect filter", codes "down 3 scan 1.3 stream 1 generation 2 length 3 port 2\ndown 4 scan 1.4 stream 2 generation 2 length 2 port 2\n")
    ∷ (codes "down 4", codes "up 3 read 1.4 offset 0 count 2 port 2\n")
    ∷ (codes "down 3", codes "up 4 read 1.3 offset 0 count 3 port 2\n")
    ∷ (codes "up 3", codes "down 5 chunk 1.4 offset 0 bytes 5858 port 2\n")
    ∷ (codes "up 4", codes "down 6 chunk 1.3 offset 0 bytes 414243 port 2\n")
    ∷ (codes "down 5", codes "work 1 lent 1.4 offset 0 length 2 port 2\n")
    ∷ (codes "down 6", codes "work 2 lent 1.3 offset 0 length 3 port 2\n")
    ∷ (codes "work 2", codes "up 5 reply 1.3 version 1 clean port 2\n")
    ∷ (codes "work 1", codes "up 6 reply 1.4 version 1 infected 0 end 2 port 2\n")
    ∷ (codes "up 5", codes "open 1 granted stream 1 generation 2 version 1 least 0\nopen 3 granted stream 1 generation 2 version 1 least 0\n")
    ∷ (codes "up 6", codes "open 2 denied cause 2\n")
    ∷ []
    )

-- the reply of the lost port comes late, and again once that port is connected anew: nobody waits for it
abbrev pub OldReply : Type 0
OldReply =
    Prints
    (
    (codes "volume 1 closed", codes "boot 1\n")
    ∷ (codes "publish 1 5858", codes "version 1 signatures 1\n")
    ∷ (codes "create a", codes "stream 1 generation 1\n")
    ∷ (codes "write a 0 414243", codes "stream 1 generation 2 length 3\n")
    ∷ (codes "connect", codes "up 1 hello volume 1 version 1\n")
    ∷ (codes "up 1", codes "note Welcome\n")
    ∷ (codes "connect 2", codes "up 2 hello volume 1 version 1 port 2\n")
    ∷ (codes "up 2", codes "note Welcome\n")
    ∷ (codes "open a", codes "open 1 pended\ndown 1 scan 1.1 stream 1 generation 2 length 3\n")
    ∷ (codes "down 1", codes "up 3 read 1.1 offset 0 count 3\n")
    ∷ (codes "up 3", codes "down 2 chunk 1.1 offset 0 bytes 414243\n")
    ∷ (codes "down 2", codes "work 1 lent 1.1 offset 0 length 3\n")
    ∷ (codes "work 1", codes "up 4 reply 1.1 version 1 clean\n")
    ∷ (codes "disconnect filter", codes "down 3 scan 1.2 stream 1 generation 2 length 3 port 2\n")
    ∷ (codes "up 4", codes "note NoWaiter\n")
    ∷ (codes "disconnect service", [])
    ∷ (codes "connect", codes "up 5 hello volume 1 version 1\n")
    ∷ (codes "up 5", codes "note Welcome\n")
    ∷ (codes "up 4", codes "note NoWaiter\n")
    ∷ (codes "down 3", codes "up 6 read 1.2 offset 0 count 3 port 2\n")
    ∷ (codes "up 6", codes "down 4 chunk 1.2 offset 0 bytes 414243 port 2\n")
    ∷ (codes "down 4", codes "work 2 lent 1.2 offset 0 length 3 port 2\n")
    ∷ (codes "work 2", codes "up 7 reply 1.2 version 1 clean port 2\n")
    ∷ (codes "up 7", codes "open 1 granted stream 1 generation 2 version 1 least 0\n")
    ∷ []
    )

-- a write while both are connected: the abort goes to the port that was asked, the new scan to the least one
abbrev pub WrittenMeanwhile : Type 0
WrittenMeanwhile =
    Prints
    (
    (codes "volume 1 closed", codes "boot 1\n")
    ∷ (codes "publish 1 5858", codes "version 1 signatures 1\n")
    ∷ (codes "create a", codes "stream 1 generation 1\n")
    ∷ (codes "write a 0 414243", codes "stream 1 generation 2 length 3\n")
    ∷ (codes "connect 2", codes "up 1 hello volume 1 version 1 port 2\n")
    ∷ (codes "up 1", codes "note Welcome\n")
    ∷ (codes "open a", codes "open 1 pended\ndown 1 scan 1.1 stream 1 generation 2 length 3 port 2\n")
    ∷ (codes "connect", codes "up 2 hello volume 1 version 1\n")
    ∷ (codes "up 2", codes "note Welcome\n")
    ∷ (codes "write a 3 44", codes "stream 1 generation 3 length 4\ndown 2 abort 1.1 port 2\ndown 3 scan 1.2 stream 1 generation 3 length 4\n")
    ∷ (codes "down 1", codes "up 3 read 1.1 offset 0 count 3 port 2\n")
    ∷ (codes "down 2", [])
    ∷ (codes "up 3", codes "down 4 nochunk 1.1 offset 0 cause 1 port 2\n")
    ∷ (codes "disconnect filter 2", [])
    ∷ (codes "disconnect filter", codes "open 1 denied cause 6\n")
    ∷ []
    )

-- a publication reaches both services, the one of port One first; a reply under the old version is asked again on the least port
abbrev pub StaleReply : Type 0
StaleReply =
    Prints
    (
    (codes "volume 1 closed", codes "boot 1\n")
    ∷ (codes "publish 1 5858", codes "version 1 signatures 1\n")
    ∷ (codes "create a", codes "stream 1 generation 1\n")
    ∷ (codes "write a 0 414243", codes "stream 1 generation 2 length 3\n")
    ∷ (codes "connect 2", codes "up 1 hello volume 1 version 1 port 2\n")
    ∷ (codes "up 1", codes "note Welcome\n")
    ∷ (codes "open a", codes "open 1 pended\ndown 1 scan 1.1 stream 1 generation 2 length 3 port 2\n")
    ∷ (codes "connect", codes "up 2 hello volume 1 version 1\n")
    ∷ (codes "up 2", codes "note Welcome\n")
    ∷ (codes "down 1", codes "up 3 read 1.1 offset 0 count 3 port 2\n")
    ∷ (codes "up 3", codes "down 2 chunk 1.1 offset 0 bytes 414243 port 2\n")
    ∷ (codes "down 2", codes "work 1 lent 1.1 offset 0 length 3 port 2\n")
    ∷ (codes "work 1", codes "up 4 reply 1.1 version 1 clean port 2\n")
    ∷ (codes "publish 2 4142", codes "version 2 signatures 1\nup 5 updated 2\nup 6 updated 2 port 2\n")
    ∷ (codes "up 5", [])
    ∷ (codes "up 4", codes "down 3 scan 1.2 stream 1 generation 2 length 3\n")
    ∷ (codes "down 3", codes "up 7 read 1.2 offset 0 count 3\n")
    ∷ (codes "up 7", codes "down 4 chunk 1.2 offset 0 bytes 414243\n")
    ∷ (codes "down 4", codes "work 2 lent 1.2 offset 0 length 3\n")
    ∷ (codes "work 2", codes "up 8 reply 1.2 version 2 infected 0 end 2\n")
    ∷ (codes "up 8", codes "open 1 denied cause 2\n")
    ∷ []
    )

-- each service connects, restarts and judges by itself
abbrev pub RunsAlone : Type 0
RunsAlone =
    Prints
    (
    (codes "volume 1 closed", codes "boot 1\n")
    ∷ (codes "publish 1 5858", codes "version 1 signatures 1\n")
    ∷ (codes "create a", codes "stream 1 generation 1\n")
    ∷ (codes "write a 0 414243", codes "stream 1 generation 2 length 3\n")
    ∷ (codes "connect", codes "up 1 hello volume 1 version 1\n")
    ∷ (codes "up 1", codes "note Welcome\n")
    ∷ (codes "connect 2", codes "up 2 hello volume 1 version 1 port 2\n")
    ∷ (codes "up 2", codes "note Welcome\n")
    ∷ (codes "connect 2", codes "refused AlreadyConnected\n")
    ∷ (codes "restart service 2", [])
    ∷ (codes "connect 2", codes "up 3 hello volume 1 version 1 port 2\n")
    ∷ (codes "up 3", codes "note Connected\n")
    ∷ (codes "disconnect filter 2", [])
    ∷ (codes "up 3", codes "note Welcome\n")
    ∷ (codes "open a", codes "open 1 pended\ndown 1 scan 1.1 stream 1 generation 2 length 3\n")
    ∷ (codes "down 1", codes "up 4 read 1.1 offset 0 count 3\n")
    ∷ (codes "up 4", codes "down 2 chunk 1.1 offset 0 bytes 414243\n")
    ∷ (codes "down 2", codes "work 1 lent 1.1 offset 0 length 3\n")
    ∷ (codes "restart service", [])
    ∷ (codes "work 1", codes "note Orphan\n")
    ∷ (codes "work 1", codes "refused NoSuchWork\n")
    ∷ (codes "down 9", codes "refused NoSuchFrame\n")
    ∷ (codes "timeout 1", codes "open 1 denied cause 5\ndown 3 abort 1.1\n")
    ∷ []
    )

-- a spare whose hello is older than the floor stays out until it connects anew
abbrev pub LateHello : Type 0
LateHello =
    Prints
    (
    (codes "volume 1 closed", codes "boot 1\n")
    ∷ (codes "publish 1 5858", codes "version 1 signatures 1\n")
    ∷ (codes "create a", codes "stream 1 generation 1\n")
    ∷ (codes "write a 0 414243", codes "stream 1 generation 2 length 3\n")
    ∷ (codes "connect", codes "up 1 hello volume 1 version 1\n")
    ∷ (codes "up 1", codes "note Welcome\n")
    ∷ (codes "connect 2", codes "up 2 hello volume 1 version 1 port 2\n")
    ∷ (codes "publish 2 5858", codes "version 2 signatures 1\nup 3 updated 2\nup 4 updated 2 port 2\n")
    ∷ (codes "up 3", [])
    ∷ (codes "up 2", codes "note OldVersion\n")
    ∷ (codes "open a", codes "open 1 pended\ndown 1 scan 1.1 stream 1 generation 2 length 3\n")
    ∷ (codes "disconnect filter", codes "open 1 denied cause 6\n")
    ∷ (codes "disconnect service 2", [])
    ∷ (codes "connect 2", codes "up 5 hello volume 1 version 2 port 2\n")
    ∷ (codes "up 5", codes "note Welcome\n")
    ∷ (codes "open a", codes "open 2 pended\ndown 2 scan 1.2 stream 1 generation 2 length 3 port 2\n")
    ∷ []
    )

-- a spare with too few jobs for the questions that come to it fails the others
abbrev pub JobsFull : Type 0
JobsFull =
    PrintsWith (codes "limit jobs 1\n")
    (
    (codes "volume 1 closed", codes "boot 1\n")
    ∷ (codes "publish 1 5858", codes "version 1 signatures 1\n")
    ∷ (codes "create a", codes "stream 1 generation 1\n")
    ∷ (codes "write a 0 414243", codes "stream 1 generation 2 length 3\n")
    ∷ (codes "connect", codes "up 1 hello volume 1 version 1\n")
    ∷ (codes "up 1", codes "note Welcome\n")
    ∷ (codes "connect 2", codes "up 2 hello volume 1 version 1 port 2\n")
    ∷ (codes "up 2", codes "note Welcome\n")
    ∷ (codes "create b", codes "stream 2 generation 1\n")
    ∷ (codes "write b 0 41", codes "stream 2 generation 2 length 1\n")
    ∷ (codes "open a", codes "open 1 pended\ndown 1 scan 1.1 stream 1 generation 2 length 3\n")
    ∷ (codes "open b", codes "open 2 pended\ndown 2 scan 1.2 stream 2 generation 2 length 1\n")
    ∷ (codes "disconnect filter", codes "down 3 scan 1.3 stream 1 generation 2 length 3 port 2\ndown 4 scan 1.4 stream 2 generation 2 length 1 port 2\n")
    ∷ (codes "down 3", codes "up 3 read 1.3 offset 0 count 3 port 2\n")
    ∷ (codes "down 4", codes "up 4 reply 1.4 failed 1 port 2\n")
    ∷ (codes "up 4", codes "open 2 denied cause 7\n")
    ∷ []
    )

-- a script whose second line is bad
abbrev pub IsBad : List ℕ → Type 0
IsBad line = script_of (codes "volume 1 closed\n" ++ line ++ codes "\n") ≡ Err (record { line = 2 })

-- port 1 is never written, there is no port 3, and the filter restarts as a whole
pub record BadLines : Type 0 where
  pub one_written : IsBad (codes "connect 1")
  pub three : IsBad (codes "disconnect filter 3")
  pub filter_restarts : IsBad (codes "restart filter 2")
  pub no_side : IsBad (codes "disconnect 2")
  pub more : IsBad (codes "restart service 2 2")

-- all of them
pub record AreWorked : Type 0 where
  pub asked_on_the_other : AskedOnTheOther
  pub none_left : NoneLeft
  pub two_wait : TwoWait
  pub old_reply : OldReply
  pub written_meanwhile : WrittenMeanwhile
  pub stale_reply : StaleReply
  pub runs_alone : RunsAlone
  pub late_hello : LateHello
  pub jobs_full : JobsFull
  pub bad_lines : BadLines
